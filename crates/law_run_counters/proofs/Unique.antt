-- The transcript is counted, and no other lines are lawful and counted.
use Rattle.std.proofs.Common.{◌≡◌, ℕ, ◌+◌, List, [], ◌∷◌, ◌++◌, length, refl, sym, ap, ◌∙◌, subst}
use Rattle.zb_model.specs.Lines.{Line}
use Rattle.zb_model.specs.Tools.{Tools}
use Rattle.zb_model.specs.Play.{Schedule, Event, Step, Disk, start, step, groups}
use Rattle.zb_model.specs.Claims.{Lawful}
use Rattle.zb_model.specs.Transcript.{end_line, run_lines, transcript}
use Rattle.law_run.specs.Opening.{Opens}
use Rattle.law_run_counters.specs.Counted.{answered_with, CountedFrom, Counted}
use Rattle.law_run_counters.proofs.Events.{Grounded, counts_of, event-counted, step-is, event-same, event-grounded, start-grounded}

counted-from : (tools : Tools) → Opens tools → (w : Schedule) (h : List Line) (disks : List Disk) (number : ℕ)
    (events : List Event) → Grounded h
    → CountedFrom tools w h disks number events (groups tools w h disks number events)
unfolding groups
counted-from tools opens w h disks number [] grounded = refl
counted-from tools opens w h disks number (event ∷ events) grounded = (
  counts_of tools w h event,
  more,
  ap (λ (g : Step). g.lines ++ more) (sym (step-is tools w h disks number event)),
  event-counted tools opens w h number event grounded.bridged,
  subst (λ (g : Step). CountedFrom tools w (h ++ g.lines) g.disks (number + 1) events more)
      (sym (step-is tools w h disks number event))
      (counted-from tools opens w (h ++ (step tools w h disks number event).lines)
      (step tools w h disks number event).disks (number + 1) events
      (event-grounded tools w h disks number event grounded)),
)
  where
    more : List Line
    more = groups tools w (h ++ (step tools w h disks number event).lines) (step tools w h disks number event).disks
        (number + 1) events

pub counted : (tools : Tools) → Opens tools → (w : Schedule) → Counted tools w (transcript tools w)
unfolding transcript run_lines
counted tools opens w = (
  groups tools w (start w) [] 1 w.events,
  end_line tools (length w.events)
      (start w ++ groups tools w (start w) [] 1 w.events),
  refl,
  counted-from tools opens w (start w) [] 1 w.events
      (start-grounded w),
)

-- What is counted is what the run has.
groups-same : (tools : Tools) → Opens tools → (w : Schedule) (h : List Line) (disks : List Disk) (number : ℕ)
    (events : List Event) (rest : List Line) → Grounded h → CountedFrom tools w h disks number events rest → rest
    ≡ groups tools w h disks number events
unfolding groups
groups-same tools opens w h disks number [] rest grounded c = c
groups-same tools opens w h disks number (event ∷ events) rest grounded c =
    c.2 ∙ ap (λ (g : Step). g.lines ++ c.1) same
    ∙ ap (λ l. (step tools w h disks number event).lines ++ l)
    (groups-same tools opens w (h ++ (step tools w h disks number event).lines)
    (step tools w h disks number event).disks (number + 1) events c.1
    (event-grounded tools w h disks number event grounded)
    (subst (λ (g : Step). CountedFrom tools w (h ++ g.lines) g.disks (number + 1) events c.1) same c.4))
  where
    same : answered_with tools w h disks number event c.0 ≡ step tools w h disks number event
    same = event-same tools opens w h disks number event c.0 grounded.bridged c.3

-- the last line, and those before it
last_of : Line → List Line → Line
last_of x [] = x
last_of x (y ∷ ys) = last_of y ys

front_of : Line → List Line → List Line
front_of x [] = []
front_of x (y ∷ ys) = x ∷ front_of y ys

last : Line → List Line → Line
last d [] = d
last d (x ∷ xs) = last_of x xs

front : List Line → List Line
front [] = []
front (x ∷ xs) = front_of x xs

last-of : (y : Line) (xs : List Line) (x : Line) → last_of y (xs ++ x ∷ []) ≡ x
unfolding last_of
last-of y [] x = refl
last-of y (z ∷ xs) x = last-of z xs x

front-of : (y : Line) (xs : List Line) (x : Line) → front_of y (xs ++ x ∷ []) ≡ y ∷ xs
unfolding front_of
front-of y [] x = refl
front-of y (z ∷ xs) x = ap (λ l. y ∷ l) (front-of z xs x)

last-is : (d : Line) (xs : List Line) (x : Line) → last d (xs ++ x ∷ []) ≡ x
unfolding last last_of
last-is d [] x = refl
last-is d (y ∷ xs) x = last-of y xs x

front-is : (xs : List Line) (x : Line) → front (xs ++ x ∷ []) ≡ xs
unfolding front front_of
front-is [] x = refl
front-is (y ∷ xs) x = front-of y xs x

same-front : (xs ys : List Line) (x y : Line) → xs ++ x ∷ [] ≡ ys ++ y ∷ [] → xs ≡ ys
same-front xs ys x y e = sym (front-is xs x) ∙ ap front e ∙ front-is ys y

same-last : (xs ys : List Line) (x y : Line) → xs ++ x ∷ [] ≡ ys ++ y ∷ [] → x ≡ y
same-last xs ys x y e = sym (last-is x xs x) ∙ ap (λ l. last x l) e ∙ last-is x ys y

pub unique : (tools : Tools) → Opens tools → (w : Schedule) (lines : List Line) → Lawful tools w lines
    → Counted tools w lines → lines ≡ transcript tools w
unfolding transcript run_lines
unique tools opens w lines l c =
    c.2 ∙ ap (λ x. (start w ++ c.0) ++ x ∷ [])
    (same-last (start w ++ c.0) (start w ++ l.0) c.1 (end_line tools (length w.events) (start w ++ l.0)) joined ∙
    ap (λ h. end_line tools (length w.events) h)
    (sym (same-front (start w ++ c.0) (start w ++ l.0) c.1 (end_line tools (length w.events) (start w ++ l.0))
    joined)))
    ∙ ap (λ g. (start w ++ g) ++ end_line tools (length w.events) (start w ++ g) ∷ [])
    (groups-same tools opens w (start w) [] 1 w.events c.0 (start-grounded w) c.3)
  where
    joined : (start w ++ c.0) ++ c.1 ∷ [] ≡ (start w ++ l.0) ++ end_line tools (length w.events) (start w ++ l.0) ∷ []
    joined = sym c.2 ∙ l.1
