-- The prefix of a frame up to its body, with the actual level, is what is authenticated.
use Rattle.std.proofs.Common.{◌≡◌, ℕ, ◌+◌, ◌-◌, List, ◌∷◌, ◌++◌, length, take, Option, Some, None, refl, sym, ap, ◌∙◌, append_assoc, arith, length-append}
use Rattle.std.specs.Int.{w32}
use Rattle.std.proofs.lemmas.List.{take_at}
use Rattle.zb_base.specs.declared.address.Eui.{Eui}
use Rattle.zb_cursor.specs.Spelling.{byte, number, eui, optional}
use Rattle.zb_nwk.specs.declared.auxiliary.NwkAux.{NwkAux}
use Rattle.zb_nwk.specs.declared.frame.NwkFrame.{NwkFrame}
use Rattle.zb_nwk.specs.Spelling as nwk
use Rattle.zb_nwk.specs.Shape as nwk_shape
use Rattle.zb_aps.specs.declared.auxiliary.ApsAux.{ApsAux}
use Rattle.zb_aps.specs.declared.frame.ApsFrame.{ApsFrame}
use Rattle.zb_aps.specs.Spelling as aps
use Rattle.zb_aps.specs.Shape as aps_shape
use Rattle.zb_seal.specs.Wire.{at_place, real_level}
use Rattle.zb_seal.specs.Opening.{leveled_nwk, leveled_aps, aps_size}
use Rattle.zb_seal.proofs.Places.{at_place-append}

regroup : (hd au body mic : List ℕ) → hd ++ ((au ++ body) ++ mic) ≡ (hd ++ au) ++ (body ++ mic)
regroup hd au body mic = simp append_assoc

-- the total length of the parts
pub parts_length : (hd au body mic bytes : List ℕ) → bytes ≡ hd ++ ((au ++ body) ++ mic) → length mic ≡ 4
    → length bytes ≡ length hd + length au + length body + 4
parts_length hd au body mic bytes parts four =
    omega (
      arith,
      four,
      ap (length {A = ℕ}) parts,
      length-append hd ((au ++ body) ++ mic),
      length-append (au ++ body) mic,
      length-append au body,
    )

front_leveled : (hd tl body mic bytes : List ℕ) (c size : ℕ) → size ≡ length (c ∷ tl) → bytes ≡ hd
    ++ (((c ∷ tl) ++ body) ++ mic) → length mic ≡ 4
    → at_place real_level (length bytes - 4 - length body - size) (take (length bytes - 4 - length body) bytes) ≡ hd
    ++ (real_level c ∷ tl)
front_leveled hd tl body mic bytes c size is parts four =
    let au : List ℕ = c ∷ tl in
    let all : length bytes ≡ length hd + length au + length body + 4 = parts_length hd au body mic bytes parts four in
    let whole : length bytes - 4 - length body ≡ length (hd ++ au) = omega (arith, all, length-append hd au) in
    let place : length (hd ++ au) - size ≡ length hd = omega (arith, is, length-append hd au) in
    let front : take (length (hd ++ au)) bytes ≡ hd
    ++ au = ap (take (length (hd ++ au))) (parts ∙ regroup hd au body mic) ∙ take_at (hd ++ au) (body ++ mic)
    (length (hd ++ au)) refl in
    rw (whole, place, front) (at_place-append real_level hd tl c)

pub nwk_text : (bytes : List ℕ) (f : NwkFrame) (a : NwkAux) → nwk_shape.Spells bytes f → f.aux ≡ Some a → bytes
    ≡ nwk.header f.header ++ ((nwk.aux a ++ f.body.items) ++ f.mic)
nwk_text bytes f a spells is =
    spells.is_frame.text ∙ ap (λ (o : Option NwkAux). nwk.header f.header ++ nwk.content o f.body.items f.mic) is

pub nwk_front : (bytes : List ℕ) (f : NwkFrame) (a : NwkAux) → nwk_shape.Spells bytes f → f.aux ≡ Some a
    → at_place real_level (length bytes - 4 - length f.body.items - 14)
    (take (length bytes - 4 - length f.body.items) bytes) ≡ nwk.header f.header ++ nwk.aux (leveled_nwk a)
nwk_front bytes f a spells is =
    front_leveled (nwk.header f.header) (number w32 a.counter ++ eui a.source ++ byte a.key_sequence) f.body.items
    f.mic bytes a.control 14 refl (nwk_text bytes f a spells is) spells.is_frame.in_range.mic

pub aps_text : (bytes : List ℕ) (f : ApsFrame) (a : ApsAux) → aps_shape.Spells bytes f → f.aux ≡ Some a → bytes
    ≡ aps.header f.header ++ ((aps.aux a ++ f.body.items) ++ f.mic)
aps_text bytes f a spells is =
    spells.is_frame.text ∙ ap (λ (o : Option ApsAux). aps.header f.header ++ aps.content o f.body.items f.mic) is

length-source : (o : Option Eui) → 5 + length (optional eui o) ≡ aps_size o
length-source None = refl
length-source (Some source) = refl

pub aps_size_is : (a : ApsAux) → aps_size a.source
    ≡ length (a.control ∷ (number w32 a.counter ++ optional eui a.source))
aps_size_is a =
    sym (length-source a.source) ∙ omega (arith, length-append (number w32 a.counter) (optional eui a.source))

pub aps_front : (bytes : List ℕ) (f : ApsFrame) (a : ApsAux) → aps_shape.Spells bytes f → f.aux ≡ Some a
    → at_place real_level (length bytes - 4 - length f.body.items - aps_size a.source)
    (take (length bytes - 4 - length f.body.items) bytes) ≡ aps.header f.header ++ aps.aux (leveled_aps a)
aps_front bytes f a spells is =
    let tl : List ℕ = number w32 a.counter ++ optional eui a.source in
    let size : aps_size a.source ≡ length (a.control ∷ tl) =
    sym (length-source a.source) ∙ omega (arith, length-append (number w32 a.counter) (optional eui a.source)) in
    front_leveled (aps.header f.header) tl f.body.items f.mic bytes a.control (aps_size a.source) size
    (aps_text bytes f a spells is) spells.is_frame.in_range.mic
