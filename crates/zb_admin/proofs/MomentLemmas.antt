-- Every moment of a run of commands, as one statement: each image represents what stands after some first commands,
-- among which is each command of whose lines a byte was written.
use Rattle.std.proofs.Common.{◌≡◌, ℕ, zero, suc, Bool, true, false, inl, inr, List, [], ◌∷◌, ◌++◌, drop, length, take, Option, Some, refl, sym, ap, ◌∙◌, subst, append_assoc, append-nil}
use Rattle.std.proofs.KnownBytes.{Appends-nil, Appends-trans}
use Rattle.std.specs.Io.KnownBytes.{Appends}
use Rattle.zb_centre_store.specs.Calls.{WasThereOrEmpty}
use Rattle.zb_admin.specs.Commands.{IsBetween, lays_out}
use Rattle.zb_admin.specs.Moments.{Covers, Goes, IsOfRun, IsRun, MakesStore, Moment, Stretch, calls, writes, new_store, standing_after, text_after}
use Rattle.zb_centre_store.specs.Outside.{Outside}
use Rattle.zb_admin.specs.Served.{done, on_store, served}
use Rattle.zb_admin.specs.Serving.{Ended, Runs}
use Rattle.zb_centre_store.specs.Standing.{StandsAs, StandsAsEither}
use Rattle.zb_admin.proofs.CommandLemmas.{lays_some}
use Rattle.zb_admin.proofs.RunLemmas.{front_behind, front_within, page_more}
use Rattle.zb_base.specs.Outside.{AppendsFront}
use Rattle.zb_disk.proofs.Moments.{goes_through, weakened}
use Rattle.zb_disk.specs.View.{LeavesOnly}
use Rattle.zb_model.specs.Data.{Bytes}
use Rattle.zb_model.specs.Rules.{Setting}
use Rattle.zb_model.specs.State.{NodeState}
use Rattle.zb_script.specs.declared.script.Order.{Order}
use Rattle.zb_script.specs.declared.script.Order.TheVariants.{Init, Provision, Remove, List as Lists, Backup, Restore}
use Rattle.zb_script.specs.declared.script.Step.{Step}
use Rattle.zb_text.specs.Pages.{page}

-- ---- a script and one command more

-- the first commands and one more, and those that are left then
pub next_taken : (all : List Step) (k : ℕ) (step : Step) (rest : List Step) → drop k all ≡ step ∷ rest
    → take (suc k) all ≡ take k all ++ step ∷ []
next_taken [] zero step rest e = absurd (cc)
next_taken [] (suc k) step rest e = absurd (cc)
next_taken (y ∷ ys) zero step rest e = let same : y ≡ step = cc in ap (λ z. z ∷ []) same
next_taken (y ∷ ys) (suc k) step rest e = ap (λ l. y ∷ l) (next_taken ys k step rest e)

pub next_dropped : (all : List Step) (k : ℕ) (step : Step) (rest : List Step) → drop k all ≡ step ∷ rest
    → drop (suc k) all ≡ rest
next_dropped [] zero step rest e = absurd (cc)
next_dropped [] (suc k) step rest e = absurd (cc)
next_dropped (y ∷ ys) zero step rest e = cc
next_dropped (y ∷ ys) (suc k) step rest e = next_dropped ys k step rest e

served_on : (c : Setting) (front : List Step) (step : Step) (b : Option NodeState)
    → (served c (front ++ step ∷ []) b).after ≡ (done c step (served c front b).after).after
served_on c [] step b = refl
served_on c (s ∷ front) step b = served_on c front step (done c s b).after

lines_on : (c : Setting) (front : List Step) (step : Step) (b : Option NodeState)
    → (served c (front ++ step ∷ []) b).lines ≡ (served c front b).lines
    ++ (done c step (served c front b).after).lines
lines_on c [] step b = append-nil (done c step b).lines
lines_on c (s ∷ front) step b =
    ap (λ l. (done c s b).lines ++ l) (lines_on c front step (done c s b).after)
    ∙ sym (append_assoc (done c s b).lines (served c front (done c s b).after).lines
    (done c step (served c front (done c s b).after).after).lines)

all_taken : (xs : Bytes) → take (length xs) xs ≡ xs
all_taken [] = refl
all_taken (y ∷ ys) = ap (λ l. y ∷ l) (all_taken ys)

front_of_all : (a b : Option Bytes) (text : Bytes) → Appends a b text → AppendsFront a b text
front_of_all a b text h = (length text, subst (Appends a b) (sym (all_taken text)) h)

-- So many commands of the script were served: these are left, this stands, and their lines were written.
pub record HasCome {D W : Type 0} (x : Outside D W) (c : Setting) (all : List Step) (first : Option NodeState)
    (origin : W) (k : ℕ) (steps : List Step) (b : Option NodeState) (before : W) : Type 0 where
  pub left : drop k all ≡ steps
  pub stood : b ≡ standing_after c all first k
  pub written : Appends (x.taken origin) (x.taken before) (text_after c all first k)

module _ {D W : Type 0} (x : Outside D W) (c : Setting) (all : List Step) (first : Option NodeState) (origin : W) where
  after_next : (k : ℕ) (step : Step) (steps : List Step) (b : Option NodeState) (before : W)
      → HasCome x c all first origin k (step ∷ steps) b before → (done c step b).after
      ≡ standing_after c all first (suc k)
  after_next k step steps b before h =
      ap (λ (o : Option NodeState). (done c step o).after) h.stood
      ∙ sym (served_on c (take k all) step first)
      ∙ ap (λ (l : List Step). (served c l first).after) (sym (next_taken all k step steps h.left))

  text_next : (k : ℕ) (step : Step) (steps : List Step) (b : Option NodeState) (before : W)
      → HasCome x c all first origin k (step ∷ steps) b before → text_after c all first (suc k)
      ≡ text_after c all first k ++ page (done c step b).lines
  text_next k step steps b before h =
      ap (λ (l : List Step). page (served c l first).lines) (next_taken all k step steps h.left)
      ∙ ap page (lines_on c (take k all) step first)
      ∙ page_more (served c (take k all) first).lines (done c step (served c (take k all) first).after).lines
      ∙ ap (λ (o : Option NodeState). text_after c all first k ++ page (done c step o).lines) (sym h.stood)

  module _ (k : ℕ) (step : Step) (steps : List Step) (b : Option NodeState) (before : W)
      (h : HasCome x c all first origin k (step ∷ steps) b before) where
    -- what stands after one command more, where a prefix of its lines was written
    covers_next : (out : W)
        → AppendsFront (x.taken origin) (x.taken out) (text_after c all first k ++ page (done c step b).lines)
        → (image : List ℕ) → StandsAs (done c step b).after image → Covers x c all first origin out image
    covers_next out written image stands = record {
      commands = suc k;
      stands_so = subst (λ (o : Option NodeState). StandsAs o image) (after_next k step steps b before h) stands;
      written = subst (AppendsFront (x.taken origin) (x.taken out)) (sym (text_next k step steps b before h)) written;
    }

    -- while the disk is called for it
    covers_either : (image : List ℕ) → StandsAsEither b (done c step b).after image
        → Covers x c all first origin before image
    covers_either image (inl stands) = record {
      commands = k;
      stands_so = subst (λ (o : Option NodeState). StandsAs o image) h.stood stands;
      written = front_of_all (x.taken origin) (x.taken before) (text_after c all first k) h.written;
    }
    covers_either image (inr stands) =
        covers_next before
        (front_within (x.taken origin) (x.taken before) (text_after c all first k) (page (done c step b).lines)
        (front_of_all (x.taken origin) (x.taken before) (text_after c all first k) h.written)) image stands

    -- the disk was called for it
    called : (old disk : D) (lays : Bool) → lays_out step.order b ≡ lays
        → IsBetween (lays_out step.order b) b (done c step b).after (x.state old) (x.state disk)
        → Stretch x c all first origin (record { disk = old; out = before }) (record { disk = disk; out = before })
    called old disk true is between = new_store refl (record {
      commands = k;
      written = h.written;
      step = step;
      rest = steps;
      comes_next = h.left;
      makes = ap (lays_out step.order) (sym h.stood) ∙ is;
    })
    called old disk false is between =
        calls refl
        (weakened (x.state old) (x.state disk) (StandsAsEither b (done c step b).after)
        (Covers x c all first origin before) covers_either (between is))

    -- a prefix of its lines was written
    told : (disk : D) (sink : W) (text : Bytes) → Appends (x.taken before) (x.taken sink) text
        → AppendsFront (x.taken origin) (x.taken sink) (text_after c all first k ++ page (done c step b).lines)
        → ((image : List ℕ) → (x.state disk).images image → StandsAs (done c step b).after image)
        → Stretch x c all first origin (record { disk = disk; out = before }) (record { disk = disk; out = sink })
    told disk sink text more written stand =
        writes text refl more (λ image there. covers_next sink written image (stand image there))

    come_next : (sink : W) → Appends (x.taken before) (x.taken sink) (page (done c step b).lines)
        → HasCome x c all first origin (suc k) steps (done c step b).after sink
    come_next sink lines = record {
      left = next_dropped all k step steps h.left;
      stood = after_next k step steps b before h;
      written = subst (Appends (x.taken origin) (x.taken sink)) (sym (text_next k step steps b before h))
          (Appends-trans (x.taken origin) (x.taken before) (x.taken sink) (text_after c all first k)
          (page (done c step b).lines) h.written lines);
    }

  same_moment : (d e : D) (v w : W) → d ≡ e → v ≡ w → ◌≡◌ {A = Moment D W} (record { disk = d; out = v })
      (record { disk = e; out = w })
  same_moment d e v w disk out = cc

  -- the run goes from one moment to another
  abbrev pub Way : D → W → D → W → Type 0
  Way old before new after = (moments : List (Moment D W))
      × Goes x c all first origin (record { disk = old; out = before }) moments (record { disk = new; out = after })

  pub run_goes : (k : ℕ) (steps : List Step) (b : Option NodeState) (old : D) (before : W) (result : Ended) (new : D)
      (after : W) → HasCome x c all first origin k steps b before → Runs x c steps b old before result new after
      → Way old before new after
  run_goes k [] b old before result new after h (is, same_disk, same) =
      ([], same_moment new old after before same_disk same)
  run_goes k (step ∷ steps) b old before result new after h (inl (fault, is, inl (between, same, worn))) = (
    record { disk = new; out = before }
        ∷ [],
    (
      called k step steps b before h old new (lays_out step.order b) refl between,
      same_moment new new after before refl same,
    ),
  )
  run_goes k (step ∷ steps) b old before result new after h (inl (fault, is, inr (stored, front, wrote))) = (
    record { disk = new; out = before } ∷ record { disk = new; out = after } ∷ [],
    (
      called k step steps b before h old new (lays_out step.order b) refl stored.between,
      (
        told k step steps b before h new after (take front.0 (page (done c step b).lines)) front.1
            (front_behind (x.taken origin) (x.taken before) (x.taken after) (text_after c all first k)
            (page (done c step b).lines) h.written front) stored.after,
        refl,
      ),
    ),
  )
  run_goes k (step ∷ steps) b old before result new after h (inr (disk, sink, stored, lines, rest)) =
      let more = run_goes (suc k) steps (done c step b).after disk sink result new after
      (come_next k step steps b before h sink lines) rest in (
        record { disk = disk; out = before } ∷ record { disk = disk; out = sink } ∷ more.0,
        (
          called k step steps b before h old disk (lays_out step.order b) refl stored.between,
          (
            told k step steps b before h disk sink (page (done c step b).lines) lines
                (front_behind (x.taken origin) (x.taken before) (x.taken sink) (text_after c all first k)
                (page (done c step b).lines) h.written
                (front_of_all (x.taken before) (x.taken sink) (page (done c step b).lines) lines)) stored.after,
            more.1,
          ),
        ),
      )

  nothing_yet : HasCome x c all first origin 0 all first origin
  nothing_yet = record { left = refl; stood = refl; written = Appends-nil (x.taken origin) }

  -- the whole script
  pub script_goes : (old : D) (result : Ended) (new : D) (after : W) → Runs x c all first old origin result new after
      → Way old origin new after
  script_goes old result new after runs = run_goes 0 all first old origin result new after nothing_yet runs

-- ---- where a store stands at first, no command makes a new one

some_after : (c : Setting) (step : Step) (s : NodeState) (o : Order) → (t : NodeState)
    × ((on_store c step.line o s).after ≡ Some t)
some_after c step s (Init key) = (s, refl)
some_after c step s (Provision device code) = (_, refl)
some_after c step s (Remove device via) = (_, refl)
some_after c step s Lists = (s, refl)
some_after c step s Backup = (s, refl)
some_after c step s (Restore by bytes) = (s, refl)

some_stands : (c : Setting) (steps : List Step) (s : NodeState) → (t : NodeState)
    × ((served c steps (Some s)).after ≡ Some t)
unfolding done
some_stands c [] s = (s, refl)
some_stands c (step ∷ steps) s =
    let next = some_after c step s step.order in
    let more = some_stands c steps next.0 in
    (more.0, ap (λ (o : Option NodeState). (served c steps o).after) next.1 ∙ more.1)

no_new_store : {D W : Type 0} (x : Outside D W) (c : Setting) (steps : List Step) (s : NodeState) (before out : W)
    → MakesStore x c steps (Some s) before out → ⊥
no_new_store x c steps s before out h =
    let stands = some_stands c (take h.commands steps) s in
    let laid : lays_out h.step.order (Some stands.0) ≡ true = ap (lays_out h.step.order) (sym stands.1) ∙ h.makes in
    let none : false ≡ true = sym (lays_some h.step.order stands.0) ∙ laid in
    absurd (cc)

module _ {D W : Type 0} (x : Outside D W) (c : Setting) (steps : List Step) (s : NodeState) (before : W) (old : D)
  where
    abbrev P : List ℕ → Type 0
    P = IsOfRun x c steps (Some s) old

    of_run : (out : W) (image : List ℕ) → Covers x c steps (Some s) before out image → P image
    of_run out image covers = inr (covers.commands, covers.stands_so)

    one_stretch : (now next : Moment D W) → LeavesOnly (x.state old) (x.state now.disk) P
        → Stretch x c steps (Some s) before now next → LeavesOnly (x.state old) (x.state next.disk) P
    one_stretch now next so_far (calls same leaves) =
        goes_through (x.state old) (x.state now.disk) (x.state next.disk) P so_far
        (weakened (x.state now.disk) (x.state next.disk) (Covers x c steps (Some s) before next.out) P
        (of_run next.out) leaves)
    one_stretch now next so_far (writes text same more stand) =
        subst (λ (d : D). LeavesOnly (x.state old) (x.state d) P) (sym same) so_far
    one_stretch now next so_far (new_store same makes) = absurd (no_new_store x c steps s before now.out makes)

    pub all_along : (now : Moment D W) (moments : List (Moment D W)) (last : Moment D W)
        → LeavesOnly (x.state old) (x.state now.disk) P → Goes x c steps (Some s) before now moments last
        → LeavesOnly (x.state old) (x.state last.disk) P
    all_along now [] last so_far same = subst (λ (m : Moment D W). LeavesOnly (x.state old) (x.state m.disk) P)
        (sym same) so_far
    all_along now (next ∷ more) last so_far (stretch, rest) =
        all_along next more last (one_stretch now next so_far stretch) rest

    pub all_of_run : (new : D) (after : W) → IsRun x c steps (Some s) old before new after
        → LeavesOnly (x.state old) (x.state new) P
    all_of_run new after run = all_along (record { disk = run.opened; out = before }) run.moments
        (record { disk = new; out = after })
        (weakened (x.state old) (x.state run.opened) (WasThereOrEmpty (x.state old)) P (λ image was. inl was)
        run.opening) run.goes
