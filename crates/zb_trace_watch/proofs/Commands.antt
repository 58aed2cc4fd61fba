-- Bytes that don't begin as an APS command carry no key.
use Rattle.std.proofs.Common.{◌≡◌, ℕ, List, Bool, true, false, ◌&&◌, Option, None, Result, Ok, Err, refl, ap, sym, ◌∙◌, is_none}
use Rattle.std.specs.Prelude.{◌<◌, ◌^◌, if◌then◌else◌, slice_index}
use Rattle.zb_aps.proofs.FaultLaws.{read_is_spelled}
use Rattle.zb_aps.specs.Reading.{frame_of}
use Rattle.zb_aps.specs.declared.fault.ApsError.{ApsError}
use Rattle.zb_aps.specs.declared.frame.ApsFrame.{ApsFrame}
use Rattle.zb_base.specs.declared.key.Key.{Key}
use Rattle.zb_base.specs.declared.label.Layer.{Layer}
use Rattle.zb_base.specs.declared.label.Layer.TheVariants.{Nwk}
use Rattle.zb_seal.specs.Carrying.{carried, carried_at, clear_key, is_command, is_command_header, key_in}
use Rattle.zb_cmd.specs.Reading.{command_of}
use Rattle.zb_seal.specs.declared.term.Term.{Term}

none_of : (absent command : Bool) (key : Option Key) → command ≡ false
    → (if absent && command then key else None) ≡ None
none_of true true key e = cc e
none_of true false key e = refl
none_of false command key e = refl

pub no_command : (bytes : List ℕ) → ((i : ℕ) → slice_index bytes i < 2 ^ 8) → is_command_header bytes ≡ false
    → clear_key (frame_of bytes) ≡ None
no_command bytes are other = by (frame_of bytes) refl
  where
    by : (r : Result ApsFrame ApsError) → frame_of bytes ≡ r → clear_key r ≡ None
    by (Err e) is = refl
    by (Ok f) is =
        none_of (is_none f.aux) (is_command f.header.control) (key_in (command_of f.body.items))
        (sym (ap is_command_header (read_is_spelled bytes are f is).is_frame.text) ∙ other)

pub nothing_carried : (t : Term) → t.layer ≡ Nwk → clear_key (frame_of t.content.items) ≡ None → carried t ≡ None
unfolding carried
nothing_carried t layer none = ap (λ (l : Layer). carried_at l t.header.items t.content.items) layer ∙ none
