-- The orders of a history list each write once, by ascending ends.
use Rattle.std.proofs.Common.{◌≡◌, ◌≤◌, ◌<◌, ◌==◌, ◌⊎◌, ◌++◌, ◌<ℤ◌, ℕ, zero, suc, ℤ, Bool, true, false, cond, nat_lt, List, [], ◌∷◌, length, length-append, map, reverse, slice_get, Option, Some, None, inl, inr, refl, ap, sym, subst, ◌∙◌, arith}
use Rattle.std.specs.Ordering.{int_eq}
use Rattle.std.proofs.lemmas.Bool.{eqb-true, eqb-false, eq-eqb, ne_eqb, cases_order, ltb-true, ltb-false}
use Rattle.std.proofs.lemmas.Bool.Decides.{Decides-int_eq}
use Rattle.std.proofs.lemmas.Int.{ints}
use Rattle.std.proofs.lemmas.List.{reverse-append, length-reverse}
use Rattle.fsl_core.specs.declared.label.Label.{Label}
use Rattle.fsl_core.specs.declared.mode.Mode.{Mode}
use Rattle.fsl_graph.specs.declared.event.Event.{Event}
use Rattle.fsl_graph.specs.declared.graph.Graph.{Graph}
use Rattle.fsl_graph.specs.declared.graph.Order.{Order}
use Rattle.fsl_graph.specs.Consistent.{HasOrders}
use Rattle.fsl_graph.specs.Events.{Is, Touch, Touches, written_by, Writes}
use Rattle.fsl_graph.specs.Places.{IsEntry, Listed}
use Rattle.fsl_history.specs.History.{Done, done, older}
use Rattle.fsl_history.specs.Lawful.{WritesIn}
use Rattle.fsl_history.specs.Shown.{is_at, writes_at, insert_by, end_in, order_of, event_of, IsGraphOf}
use Rattle.fsl_history.proofs.HistoryLemmas.{IsStep, Made, step_at}

-- the events of g are those of the history, and its modification orders go by the ends of intervals
pub record Shows (g : Graph) (h : List Done) : Type 0 where
  pub there : (e : ℕ) → e < length h → Is g e (done h e).event
  pub only : (e : ℕ) (x : Event) → Is g e x → e < length h
  pub orders : HasOrders g
  pub ascending : (a b j k : ℕ) (l : ℤ) → Listed g l a j → Listed g l b k → j < k → (done h a).to < (done h b).to

-- ---- lists that rise

abbrev AreAbove : (ℕ → ℕ) → ℕ → List ℕ → Type 0
AreAbove end n [] = Unit {0}
AreAbove end n (w ∷ ws) = (n < end w) × AreAbove end n ws

abbrev Rises : (ℕ → ℕ) → List ℕ → Type 0
Rises end [] = Unit {0}
Rises end (w ∷ ws) = AreAbove end (end w) ws × Rises end ws

-- each is one of these
abbrev AreIn : (ℕ → Type 0) → List ℕ → Type 0
AreIn P [] = Unit {0}
AreIn P (w ∷ ws) = P w × AreIn P ws

above_at : (end : ℕ → ℕ) (n : ℕ) (ws : List ℕ) (i w : ℕ) → AreAbove end n ws → slice_get ws i ≡ Some w → n < end w
above_at end n [] i w a e = cc
above_at end n (x ∷ ws) zero w a e = let same : x ≡ w = cc in subst (λ y. n < end y) same a.0
above_at end n (x ∷ ws) (suc i) w a e = above_at end n ws i w a.1 e

rises_at : (end : ℕ → ℕ) (ws : List ℕ) (i j a b : ℕ) → Rises end ws → slice_get ws i ≡ Some a → slice_get ws j ≡ Some b → i < j → end a < end b
rises_at end [] i j a b r p q less = cc
rises_at end (w ∷ ws) zero zero a b r p q less = absurd (omega (arith, less))
rises_at end (w ∷ ws) zero (suc j) a b r p q less = let same : w ≡ a = cc in subst (λ x. end x < end b) same (above_at end (end w) ws j b r.0 q)
rises_at end (w ∷ ws) (suc i) zero a b r p q less = absurd (omega (arith, less))
rises_at end (w ∷ ws) (suc i) (suc j) a b r p q less = rises_at end ws i j a b r.1 p q (omega (arith, less))

in_at : (P : ℕ → Type 0) (ws : List ℕ) (i w : ℕ) → AreIn P ws → slice_get ws i ≡ Some w → P w
in_at P [] i w a e = cc
in_at P (x ∷ ws) zero w a e = let same : x ≡ w = cc in subst (λ y. P y) same a.0
in_at P (x ∷ ws) (suc i) w a e = in_at P ws i w a.1 e

above_less : (end : ℕ → ℕ) (m n : ℕ) (ws : List ℕ) → m ≤ n → AreAbove end n ws → AreAbove end m ws
above_less end m n [] le a = tt
above_less end m n (w ∷ ws) le a = ((let x = a.0 in omega (arith, x, le)), above_less end m n ws le a.1)

-- ---- one more

-- the ends of those in the list stay, and e ends at `to`, where no other does
record Extends (old new : ℕ → ℕ) (to e : ℕ) (ws : List ℕ) : Type 0 where
  stay : AreIn (λ w. new w ≡ old w) ws
  ends : new e ≡ to
  apart : AreIn (λ w. old w ≡ to → ⊥) ws

extends_rest : (old new : ℕ → ℕ) (to e w : ℕ) (ws : List ℕ) → Extends old new to e (w ∷ ws) → Extends old new to e ws
extends_rest old new to e w ws x = record { stay = x.stay.1; ends = x.ends; apart = x.apart.1 }

above_same : (old new : ℕ → ℕ) (n : ℕ) (ws : List ℕ) → AreIn (λ w. new w ≡ old w) ws → AreAbove old n ws → AreAbove new n ws
above_same old new n [] s a = tt
above_same old new n (w ∷ ws) s a = ((let x = a.0 in let y = s.0 in omega (arith, x, y)), above_same old new n ws s.1 a.1)

rises_same : (old new : ℕ → ℕ) (ws : List ℕ) → AreIn (λ w. new w ≡ old w) ws → Rises old ws → Rises new ws
rises_same old new [] s r = tt
rises_same old new (w ∷ ws) s r =
    (subst (λ n. AreAbove new n ws) (sym s.0) (above_same old new (old w) ws s.1 r.0), rises_same old new ws s.1 r.1)

above_insert : (old new : ℕ → ℕ) (n to e : ℕ) (ws : List ℕ) → Extends old new to e ws → n < to → AreAbove old n ws → AreAbove new n (insert_by old to e ws)
above_insert old new n to e [] x less a = ((let y = x.ends in omega (arith, y, less)), tt)
above_insert old new n to e (w ∷ ws) x less a =
    by (nat_lt to (old w)) (above_insert old new n to e ws (extends_rest old new to e w ws x) less a.1)
  where
    by : (b : Bool) → AreAbove new n (insert_by old to e ws) → AreAbove new n (cond b (e ∷ (w ∷ ws)) (w ∷ insert_by old to e ws))
    by true rest = ((let y = x.ends in omega (arith, y, less)), above_same old new n (w ∷ ws) x.stay a)
    by false rest = ((let y = x.stay.0 in let z = a.0 in omega (arith, y, z)), rest)

rises_insert : (old new : ℕ → ℕ) (to e : ℕ) (ws : List ℕ) → Extends old new to e ws → Rises old ws → Rises new (insert_by old to e ws)
rises_insert old new to e [] x r = (tt, tt)
rises_insert old new to e (w ∷ ws) x r =
    by (nat_lt to (old w)) refl (rises_insert old new to e ws (extends_rest old new to e w ws x) r.1)
  where
    by : (b : Bool) → nat_lt to (old w) ≡ b → Rises new (insert_by old to e ws) → Rises new (cond b (e ∷ (w ∷ ws)) (w ∷ insert_by old to e ws))
    by true t rest =
        let less : to < old w = ltb-true to (old w) t in
        let ends = x.ends in
        let stay = x.stay.0 in
        let under : to ≤ new w = omega (arith, less, stay) in
        let above : AreAbove new to (w ∷ ws) = (omega (arith, less, stay), above_less new to (new w) ws under (rises_same old new (w ∷ ws) x.stay r).0) in
        (subst (λ n. AreAbove new n (w ∷ ws)) (sym ends) above, rises_same old new (w ∷ ws) x.stay r)
    by false t rest =
        let apart = x.apart.0 in
        let le = ltb-false to (old w) t in
        let less : old w < to = omega (arith, le, apart) in (
          subst (λ n. AreAbove new n (insert_by old to e ws)) (sym x.stay.0) (above_insert old new (old w) to e ws (extends_rest old new to e w ws x) less r.0),
          rest,
        )

in_insert : (P : ℕ → Type 0) (end : ℕ → ℕ) (to e : ℕ) (ws : List ℕ) → P e → AreIn P ws → AreIn P (insert_by end to e ws)
in_insert P end to e [] p a = (p, tt)
in_insert P end to e (w ∷ ws) p a = by (nat_lt to (end w)) (in_insert P end to e ws p a.1)
  where
    by : (b : Bool) → AreIn P (insert_by end to e ws) → AreIn P (cond b (e ∷ (w ∷ ws)) (w ∷ insert_by end to e ws))
    by true rest = (p, a)
    by false rest = (a.0, rest)

in_weaker : (P Q : ℕ → Type 0) (ws : List ℕ) → ((w : ℕ) → P w → Q w) → AreIn P ws → AreIn Q ws
in_weaker P Q [] f a = tt
in_weaker P Q (w ∷ ws) f a = (f w a.0, in_weaker P Q ws f a.1)

abbrev IsIn : ℕ → List ℕ → Type 0
IsIn e ws = (i : ℕ) × (slice_get ws i ≡ Some e)

has_new : (end : ℕ → ℕ) (to e : ℕ) (ws : List ℕ) → IsIn e (insert_by end to e ws)
has_new end to e [] = (0, refl)
has_new end to e (w ∷ ws) = by (nat_lt to (end w)) (has_new end to e ws)
  where
    by : (b : Bool) → IsIn e (insert_by end to e ws) → IsIn e (cond b (e ∷ (w ∷ ws)) (w ∷ insert_by end to e ws))
    by true rest = (0, refl)
    by false rest = (suc rest.0, rest.1)

has_old : (end : ℕ → ℕ) (to e x : ℕ) (ws : List ℕ) → IsIn x ws → IsIn x (insert_by end to e ws)
has_old end to e x [] i = let got = i.1 in cc
has_old end to e x (w ∷ ws) i = by (nat_lt to (end w)) (λ j got. has_old end to e x ws (j, got))
  where
    behind : (j : ℕ) → slice_get (w ∷ ws) j ≡ Some x → ((k : ℕ) → slice_get ws k ≡ Some x → IsIn x (insert_by end to e ws))
        → IsIn x (w ∷ insert_by end to e ws)
    behind zero got later = (0, got)
    behind (suc j) got later = let rest = later j got in (suc rest.0, rest.1)

    by : (b : Bool) → ((k : ℕ) → slice_get ws k ≡ Some x → IsIn x (insert_by end to e ws))
        → IsIn x (cond b (e ∷ (w ∷ ws)) (w ∷ insert_by end to e ws))
    by true later = (suc i.0, i.1)
    by false later = behind i.0 i.1 later

-- ---- the orders of a history

-- event e is a write of l
abbrev IsWriteOf : List Done → ℤ → ℕ → Type 0
IsWriteOf h l e = (e < length h) × (writes_at (done h e).event.label l ≡ true)

touches_at : (o : Option Touch) (l : ℤ) → is_at o l ≡ true → (m : Mode) × (v : ℤ) × (o ≡ Some (Touches m l v))
touches_at None l e = cc
touches_at (Some (Touches m k v)) l e = let same : k ≡ l = (Decides-int_eq k l).0 e in (m, v, ap (λ z. Some (Touches m z v)) same)

at_touches : (o : Option Touch) (m : Mode) (l v : ℤ) → o ≡ Some (Touches m l v) → is_at o l ≡ true
at_touches o m l v e = rw e ((Decides-int_eq l l).1 refl)

writes_in : (h : List Done) (l : ℤ) (e : ℕ) → IsWriteOf h l e → (v : ℤ) × WritesIn h e l v
writes_in h l e w = let t = touches_at (written_by (done h e).event.label) l w.1 in (t.1, (w.0, (t.0, t.2)))

pub done_more : (d : Done) (h : List Done) (e : ℕ) → e < length h → done (d ∷ h) e ≡ done h e
done_more d h e less = let ne : (e == length h) ≡ false = ne_eqb e (length h) (λ same. omega (arith, same, less)) in rw ne refl

pub done_last : (d : Done) (h : List Done) → done (d ∷ h) (length h) ≡ d
done_last d h = let same : (length h == length h) ≡ true = eq-eqb (length h) (length h) refl in rw same refl

write_more : (d : Done) (h : List Done) (l : ℤ) (e : ℕ) → IsWriteOf h l e → IsWriteOf (d ∷ h) l e
write_more d h l e w =
    let under = w.0 in
    (omega (arith, under), subst (λ (x : Done). writes_at x.event.label l ≡ true) (sym (done_more d h e w.0)) w.1)

write_last : (d : Done) (h : List Done) (l : ℤ) → writes_at d.event.label l ≡ true → IsWriteOf (d ∷ h) l (length h)
write_last d h l w = (omega arith, subst (λ (x : Done). writes_at x.event.label l ≡ true) (sym (done_last d h)) w)

are_writes : (h : List Done) (l : ℤ) → AreIn (IsWriteOf h l) (order_of h l)
are_writes [] l = tt
are_writes (d ∷ h) l =
    by (writes_at d.event.label l) refl (in_weaker (IsWriteOf h l) (IsWriteOf (d ∷ h) l) (order_of h l) (write_more d h l) (are_writes h l))
  where
    by : (b : Bool) → writes_at d.event.label l ≡ b → AreIn (IsWriteOf (d ∷ h) l) (order_of h l)
        → AreIn (IsWriteOf (d ∷ h) l) (cond b (insert_by (end_in h) d.to (length h) (order_of h l)) (order_of h l))
    by true w old = in_insert (IsWriteOf (d ∷ h) l) (end_in h) d.to (length h) (order_of h l) (write_last d h l w) old
    by false w old = old

-- no other write of the location ends where the new one does
ends_apart : (h : List Done) (d : Done) (l : ℤ) → Made h → IsStep h d → writes_at d.event.label l ≡ true → (e : ℕ) → IsWriteOf h l e → end_in h e ≡ d.to → ⊥
ends_apart h d l made s w e is same =
    let mine = touches_at (written_by d.event.label) l w in
    let other = writes_in h l e is in
    let free = s.allowed.free mine.0 l mine.1 other.0 e mine.2 other.1 in
    let up = s.allowed.interval mine.0 l mine.1 mine.2 in
    let down = (step_at h e made is.0).allowed.interval other.1.1.0 l other.0 other.1.1.1 in
    elim free [
      | inl below ↦ omega (arith, same, below, up)
      | inr above ↦ omega (arith, same, above, down)
    ]

rises : (h : List Done) (l : ℤ) → Made h → Rises (end_in h) (order_of h l)
rises [] l made = tt
rises (d ∷ h) l made = by (writes_at d.event.label l) refl (rises h l made.0)
  where
    stay : AreIn (λ w. end_in (d ∷ h) w ≡ end_in h w) (order_of h l)
    stay = in_weaker (IsWriteOf h l) (λ w. end_in (d ∷ h) w ≡ end_in h w) (order_of h l) (λ w is. ap (λ (x : Done). x.to) (done_more d h w is.0)) (are_writes h l)

    by : (b : Bool) → writes_at d.event.label l ≡ b → Rises (end_in h) (order_of h l)
        → Rises (end_in (d ∷ h)) (cond b (insert_by (end_in h) d.to (length h) (order_of h l)) (order_of h l))
    by true w rest = rises_insert (end_in h) (end_in (d ∷ h)) d.to (length h) (order_of h l)
        (record {
          stay = stay;
          ends = ap (λ (x : Done). x.to) (done_last d h);
          apart = in_weaker (IsWriteOf h l) (λ x. end_in h x ≡ d.to → ⊥) (order_of h l) (ends_apart h d l made.0 made.1 w) (are_writes h l);
        })
        rest
    by false w rest = rises_same (end_in h) (end_in (d ∷ h)) (order_of h l) stay rest

has_each : (h : List Done) (l : ℤ) (e : ℕ) → IsWriteOf h l e → IsIn e (order_of h l)
has_each [] l e is = let under = is.0 in absurd (omega (arith, under))
has_each (d ∷ h) l e is = by (writes_at d.event.label l) refl (e == length h) refl (λ old. has_each h l e old)
  where
    before : (IsWriteOf h l e → IsIn e (order_of h l)) → (e == length h) ≡ false → IsIn e (order_of h l)
    before rest q =
        let apart = eqb-false e (length h) q in
        let under = is.0 in
        let less : e < length h = omega (arith, under, apart) in
        rest (less, subst (λ (x : Done). writes_at x.event.label l ≡ true) (done_more d h e less) is.1)

    by : (b : Bool) → writes_at d.event.label l ≡ b → (c : Bool) → (e == length h) ≡ c → (IsWriteOf h l e → IsIn e (order_of h l))
        → IsIn e (cond b (insert_by (end_in h) d.to (length h) (order_of h l)) (order_of h l))
    by true w true q rest =
        let same : e ≡ length h = eqb-true e (length h) q in
        subst (λ x. IsIn x (insert_by (end_in h) d.to (length h) (order_of h l))) (sym same) (has_new (end_in h) d.to (length h) (order_of h l))
    by true w false q rest = has_old (end_in h) d.to (length h) e (order_of h l) (before rest q)
    by false w true q rest = (
        let same : e ≡ length h = eqb-true e (length h) q in
        let last : done (d ∷ h) e ≡ d = ap (done (d ∷ h)) same ∙ done_last d h in
        let writes : writes_at d.event.label l ≡ true = subst (λ (x : Done). writes_at x.event.label l ≡ true) last is.1 in
        absurd cc)
    by false w false q rest = before rest q

-- ---- the events of a history

get_front : (xs ys : List Event) (i : ℕ) → i < length xs → slice_get (xs ++ ys) i ≡ slice_get xs i
get_front [] ys i less = absurd (omega (arith, less))
get_front (x ∷ xs) ys zero less = refl
get_front (x ∷ xs) ys (suc i) less = get_front xs ys i (omega (arith, less))

get_behind : (xs : List Event) (y : Event) (i : ℕ) → i ≡ length xs → slice_get (xs ++ y ∷ []) i ≡ Some y
get_behind [] y zero same = refl
get_behind [] y (suc i) same = absurd (omega (arith, same))
get_behind (x ∷ xs) y zero same = absurd (omega (arith, same))
get_behind (x ∷ xs) y (suc i) same = get_behind xs y i (omega (arith, same))

get_none : (xs : List Event) (i : ℕ) (x : Event) → slice_get xs i ≡ Some x → i < length xs
get_none [] i x e = cc
get_none (y ∷ xs) zero x e = omega arith
get_none (y ∷ xs) (suc i) x e = let rest = get_none xs i x e in omega (arith, rest)

abbrev events_of : List Done → List Event
events_of h = reverse (map event_of h)

events_more : (d : Done) (h : List Done) → events_of (d ∷ h) ≡ events_of h ++ d.event ∷ []
events_more d h = reverse-append (d.event ∷ []) (map event_of h)

length_events : (h : List Done) → length (events_of h) ≡ length h
length_events [] = refl
length_events (d ∷ h) =
    let rest = length_events h in
    let all = ap length (events_more d h) ∙ length-append (events_of h) (d.event ∷ []) in
    omega (arith, rest, all)

event_at : (h : List Done) (e : ℕ) → e < length h → slice_get (events_of h) e ≡ Some (done h e).event
event_at [] e less = absurd (omega (arith, less))
event_at (d ∷ h) e less = rw (events_more d h) (by (e == length h) refl (λ under. event_at h e under))
  where
    size : length (events_of h) ≡ length h
    size = length_events h

    by : (b : Bool) → (e == length h) ≡ b → (e < length h → slice_get (events_of h) e ≡ Some (done h e).event)
        → slice_get (events_of h ++ d.event ∷ []) e ≡ Some (cond b d (done h e)).event
    by true q rest = let same = eqb-true e (length h) q in get_behind (events_of h) d.event e (omega (arith, same, size))
    by false q rest =
        let apart = eqb-false e (length h) q in
        let under : e < length h = omega (arith, less, apart) in
        get_front (events_of h) (d.event ∷ []) e (omega (arith, under, size)) ∙ rest under

-- ---- the graph of a history shows it

listed_write : (g : Graph) (h : List Done) → IsGraphOf g h → (l : ℤ) (e k : ℕ) → (x : Listed g l e k) → slice_get (order_of h l) x.index ≡ Some e
listed_write g h is l e k x =
    let writes : x.order.writes ≡ order_of h l = is.order x.entry x.order x.is ∙ ap (order_of h) x.loc in
    ap (λ (ws : List ℕ). slice_get ws x.index) (sym writes) ∙ x.there

there_at : (g : Graph) (h : List Done) → IsGraphOf g h → (e : ℕ) → e < length h → Is g e (done h e).event
there_at g h is e less = ap (λ (xs : List Event). slice_get xs e) is.events ∙ event_at h e less

only_at : (g : Graph) (h : List Done) → IsGraphOf g h → (e : ℕ) (x : Event) → Is g e x → e < length h
only_at g h is e x at =
    let under = get_none (events_of h) e x (ap (λ (xs : List Event). slice_get xs e) (sym is.events) ∙ at) in
    let size = length_events h in
    omega (arith, under, size)

order_places : (g : Graph) (h : List Done) → Made h → IsGraphOf g h → (a b j k : ℕ) (l : ℤ) → Listed g l a j → Listed g l b k → j < k → (done h a).to < (done h b).to
order_places g h made is a b j k l x y less =
    let p = x.place in
    let q = y.place in
    rises_at (end_in h) (order_of h l) x.index y.index a b (rises h l made) (listed_write g h is l a j x) (listed_write g h is l b k y) (omega (arith, p, q, less))

has_orders : (g : Graph) (h : List Done) → Made h → IsGraphOf g h → HasOrders g
has_orders g h made is = record {
  ascend = is.ascend;
  some = is.some;
  every = λ e m l v w. (
      let less = only_at g h is e w.event w.is in
      let there = there_at g h is e less in
      let given = w.is in
      let same : (done h e).event ≡ w.event = cc in
      let writes : writes_at (done h e).event.label l ≡ true = at_touches (written_by (done h e).event.label) m l v (ap (λ (x : Event). written_by x.label) same ∙ w.writes) in
      let entry = is.every e l less writes in
      let among = has_each h l e (less, writes) in
      let order : entry.1.writes ≡ order_of h l = is.order entry.0 entry.1 entry.2 ∙ ap (order_of h) entry.3 in
      (suc among.0, record { entry = entry.0; order = entry.1; is = entry.2; loc = entry.3; index = among.0; there = ap (λ (ws : List ℕ). slice_get ws among.0) order ∙ among.1; place = refl }));
  only = λ e k l x. (
      let write = in_at (IsWriteOf h l) (order_of h l) x.index e (are_writes h l) (listed_write g h is l e k x) in
      let touch = touches_at (written_by (done h e).event.label) l write.1 in
      (touch.0, touch.1, record { event = (done h e).event; is = there_at g h is e write.0; writes = touch.2 }));
  once = λ e j k l x y. elim (cases_order j k) [
    | inl same ↦ same
    | inr (inl up) ↦ (let less = order_places g h made is e e j k l x y up in absurd (omega (arith, less)))
    | inr (inr down) ↦ (let less = order_places g h made is e e k j l y x down in absurd (omega (arith, less)))
  ];
}

pub shows : (g : Graph) (h : List Done) → Made h → IsGraphOf g h → Shows g h
shows g h made is = record {
  there = there_at g h is;
  only = only_at g h is;
  orders = has_orders g h made is;
  ascending = order_places g h made is;
}
