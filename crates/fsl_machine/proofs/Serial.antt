-- The history of one thread with one more event.
use Rattle.std.proofs.Common.{◌≡◌, ◌<◌, ◌≤◌, ◌-◌, ◌++◌, ℕ, Bool, true, false, List, [], ◌∷◌, length, slice_get, Option, Some, None, ℤ, ◌⊎◌, inl, inr, refl, ap, sym, subst, ◌∙◌, arith}
use Rattle.std.proofs.lemmas.Bool.Decides.{Decides-int_eq}
use Rattle.std.proofs.lemmas.Bool.{cases_lt}
use Rattle.std.specs.Ordering.{int_eq}
use Rattle.fsl_core.specs.declared.label.Label.{Label}
use Rattle.fsl_core.specs.declared.label.Label.TheVariants as label
use Rattle.fsl_core.specs.declared.mode.Mode.TheVariants as mode
use Rattle.fsl_graph.specs.declared.event.Event.{Event}
use Rattle.fsl_graph.specs.declared.graph.Order.{Order}
use Rattle.fsl_graph.specs.Events.{read_by}
use Rattle.fsl_graph.specs.Lone.{is_plain}
use Rattle.fsl_machine.specs.Orders.{writes_of, last_of, last_write, put, Ascends}
use Rattle.fsl_machine.specs.History.{Trace, value_by, value_from, value_at, source_of, event_of, recorded, IsNext}
use Rattle.fsl_machine.specs.Serial.{Stores, IsLastOf, IsSerial}
use Rattle.fsl_machine.proofs.OrdersLemmas.{writes_put, writes_put_other, begun_put, ascends_put}
use Rattle.fsl_machine.proofs.Snoc.{get_more, get_last, get_cases, get_within, get_before, get_there}

-- ---- stores with one more event

stores_more : (es : List Event) (x : Event) (e : ℕ) (l v : ℤ) → Stores es e l v → Stores (es ++ x ∷ []) e l v
stores_more es x e l v s = record { event = s.event; is = get_more es (x ∷ []) e s.event s.is; stores = s.stores }

stores_before : (es : List Event) (x : Event) (e : ℕ) (l v : ℤ) → Stores (es ++ x ∷ []) e l v → e < length es → Stores es e l v
stores_before es x e l v s k = record { event = s.event; is = get_before es x e s.event s.is k; stores = s.stores }

stores_cases : (es : List Event) (x : Event) (e : ℕ) (l v : ℤ) → Stores (es ++ x ∷ []) e l v
    → Stores es e l v ⊎ ((e ≡ length es) × (x.label ≡ label.Store mode.Na l v))
stores_cases es x e l v s = elim (get_cases es x e s.event s.is) [
  | inl p ↦ inl (record { event = s.event; is = p; stores = s.stores })
  | inr q ↦ inr (q.0, ap (λ (y : Event). y.label) q.1 ∙ s.stores)
]

stores_within : (es : List Event) (e : ℕ) (l v : ℤ) → Stores es e l v → e < length es
stores_within es e l v s = get_within es e s.event s.is

one_store : (es : List Event) (e : ℕ) (l m v u : ℤ) → Stores es e l v → Stores es e m u → (l ≡ m) × (v ≡ u)
one_store es e l m v u s t =
    let same : s.event ≡ t.event = let a = s.is in let b = t.is in cc in
    let labels : label.Store mode.Na l v ≡ label.Store mode.Na m u = sym s.stores ∙ ap (λ (y : Event). y.label) same ∙ t.stores in
    (cc, cc)

-- ---- the last write

last_or_before : (i n : ℕ) → i < n → (i ≡ n - 1) ⊎ (i < n - 1)
last_or_before i n h = elim (cases_lt i (n - 1)) [ inl a ↦ inr a | inr b ↦ inl (omega arith) ]

-- what the last write of a location has stored is the source of a load behind all events
pub last_is : (es : List Event) (mo : List Order) (l : ℤ) (ws : List ℕ) (n : ℕ) → IsSerial es mo → writes_of mo l ≡ ws → n ≡ length es
    → (o : Option ℕ) → last_of ws ≡ o → IsLastOf es n l (value_from es o) o
last_is es mo l ws n kept is all None last = (
  refl,
  λ w u below s.
      let found = kept.every w l u s in
      let at : slice_get ws found.0 ≡ Some w = ap (λ (x : List ℕ). slice_get x found.0) (sym is) ∙ found.1 in
      let within = get_within ws found.0 w at in
      let there = get_there ws (length ws - 1) (omega arith) in
      let clash : None ≡ Some there.0 = sym last ∙ there.1 in
      cc,
)
last_is es mo l ws n kept is all (Some s) last =
    let at : slice_get (writes_of mo l) (length ws - 1) ≡ Some s = ap (λ (x : List ℕ). slice_get x (length ws - 1)) is ∙ last in
    let stored = kept.only l (length ws - 1) s at in
    let value : value_by (slice_get es s) ≡ stored.0 = ap value_by (stored.1.is) ∙ ap (λ (x : Label). value_by (Some (record { thread = 0; label = x; from = None }))) stored.1.stores in (
      rw all (stores_within es s l stored.0 stored.1),
      rw value stored.1,
      λ w u after before t.
          let found = kept.every w l u t in
          let place : slice_get ws found.0 ≡ Some w = ap (λ (x : List ℕ). slice_get x found.0) (sym is) ∙ found.1 in
          let within = get_within ws found.0 w place in
          elim (last_or_before found.0 (length ws) within) [
            | inl here ↦ (let same : Some w ≡ Some s = sym found.1 ∙ ap (slice_get (writes_of mo l)) here ∙ at in
                let equal : w ≡ s = cc in omega arith)
            | inr there ↦ (let under = kept.rising l found.0 (length ws - 1) w s there found.1 at in omega arith)
          ],
    )

lt_le : (m n : ℕ) → m < n → m ≤ n
lt_le m n h = omega arith

last_more : (es : List Event) (x : Event) (e : ℕ) (l v : ℤ) (o : Option ℕ) → e ≤ length es → IsLastOf es e l v o → IsLastOf (es ++ x ∷ []) e l v o
last_more es x e l v None k h = (h.0, λ w u below s. h.1 w u below (stores_before es x w l u s (omega arith)))
last_more es x e l v (Some s) k h =
    (h.0, stores_more es x s l v h.1, λ w u after below t. h.2 w u after below (stores_before es x w l u t (omega arith)))

-- ---- the parts that don't speak of the orders

thread_more : (es : List Event) (mo : List Order) (x : Event) → IsSerial es mo → x.thread ≡ 0
    → (e : ℕ) (y : Event) → slice_get (es ++ x ∷ []) e ≡ Some y → y.thread ≡ 0
thread_more es mo x kept zero_is e y h = elim (get_cases es x e y h) [
  | inl p ↦ kept.thread e y p
  | inr q ↦ sym (ap (λ (z : Event). z.thread) q.1) ∙ zero_is
]

plain_more : (es : List Event) (mo : List Order) (x : Event) → IsSerial es mo → is_plain x.label ≡ true
    → (e : ℕ) (y : Event) → slice_get (es ++ x ∷ []) e ≡ Some y → is_plain y.label ≡ true
plain_more es mo x kept plain e y h = elim (get_cases es x e y h) [
  | inl p ↦ kept.plain e y p
  | inr q ↦ sym (ap (λ (z : Event). is_plain z.label) q.1) ∙ plain
]

no_source : (t : Trace) (x : Label) → read_by x ≡ None → source_of t x ≡ None
no_source t (label.Load m l v) h = cc
no_source t (label.Alloc k l) h = refl
no_source t (label.Free l) h = refl
no_source t (label.Store m l v) h = refl
no_source t (label.Rmw m l old new) h = refl
no_source t (label.Fence m) h = refl
no_source t (label.Fork ts) h = refl
no_source t (label.Join rs) h = refl
no_source t (label.Print v) h = refl
no_source t (label.End v) h = refl

others_more : (t : Trace) (x : Label) → IsSerial t.events t.mo
    → (e : ℕ) (y : Event) → slice_get (t.events ++ event_of t x ∷ []) e ≡ Some y → read_by y.label ≡ None → y.from ≡ None
others_more t x kept e y h none = elim (get_cases t.events (event_of t x) e y h) [
  | inl p ↦ kept.others e y p none
  | inr q ↦ sym (ap (λ (z : Event). z.from) q.1) ∙ no_source t x (ap (λ (z : Event). read_by z.label) q.1 ∙ none)
]

loads_last : (t : Trace) (x : Label) (l v : ℤ) → IsSerial t.events t.mo → IsNext t x → x ≡ label.Load mode.Na l v
    → IsLastOf t.events (length t.events) l v (source_of t x)
loads_last t x l v kept next is =
    let value : v ≡ value_at t l = subst (IsNext t) is next in
    let source : source_of t x ≡ last_write t.mo l = ap (source_of t) is in
    rw (source, value) (last_is t.events t.mo l (writes_of t.mo l) (length t.events) kept refl refl (last_write t.mo l) refl)

loads_more : (t : Trace) (x : Label) → IsSerial t.events t.mo → IsNext t x
    → (e : ℕ) (y : Event) (l v : ℤ) → slice_get (t.events ++ event_of t x ∷ []) e ≡ Some y → y.label ≡ label.Load mode.Na l v
    → IsLastOf (t.events ++ event_of t x ∷ []) e l v y.from
loads_more t x kept next e y l v h is = elim (get_cases t.events (event_of t x) e y h) [
  | inl p ↦ last_more t.events (event_of t x) e l v y.from (lt_le e (length t.events) (get_within t.events e y p)) (kept.loads e y l v p is)
  | inr q ↦ subst (λ (o : Option ℕ). IsLastOf (t.events ++ event_of t x ∷ []) e l v o) (ap (λ (z : Event). z.from) q.1)
      (subst (λ n. IsLastOf (t.events ++ event_of t x ∷ []) n l v (source_of t x)) (sym q.0)
      (last_more t.events (event_of t x) (length t.events) l v (source_of t x) (omega arith)
      (loads_last t x l v kept next (ap (λ (z : Event). z.label) q.1 ∙ is))))
]

-- ---- the orders, where the event is no store

every_other : (es : List Event) (mo : List Order) (x : Event) → IsSerial es mo → ((l v : ℤ) → x.label ≡ label.Store mode.Na l v → ⊥)
    → (e : ℕ) (l v : ℤ) → Stores (es ++ x ∷ []) e l v → (i : ℕ) × (slice_get (writes_of mo l) i ≡ Some e)
every_other es mo x kept never e l v s = elim (stores_cases es x e l v s) [
  | inl p ↦ kept.every e l v p
  | inr q ↦ absurd (never l v q.1)
]

only_other : (es : List Event) (mo : List Order) (x : Event) → IsSerial es mo
    → (l : ℤ) (i e : ℕ) → slice_get (writes_of mo l) i ≡ Some e → (v : ℤ) × Stores (es ++ x ∷ []) e l v
only_other es mo x kept l i e h = let old = kept.only l i e h in (old.0, stores_more es x e l old.0 old.1)

-- ---- the orders, where it is one

abbrev Grown : List Order → ℕ → (at l : ℤ) → Type 0
Grown mo n at l = ((at ≡ l) × (writes_of (put at n mo) l ≡ writes_of mo l ++ n ∷ [])) ⊎ ((at ≡ l → ⊥) × (writes_of (put at n mo) l ≡ writes_of mo l))

grown : (mo : List Order) (n : ℕ) (at l : ℤ) → Ascends mo → Grown mo n at l
grown mo n at l h = go (int_eq at l) refl where
  go : (b : Bool) → int_eq at l ≡ b → Grown mo n at l
  go true e =
      let same : at ≡ l = (Decides-int_eq at l).0 e in
      inl (same, subst (λ (k : ℤ). writes_of (put at n mo) k ≡ writes_of mo k ++ n ∷ []) same (writes_put at n mo h))
  go false e = inr (λ same. (let t : true ≡ false = sym ((Decides-int_eq at l).1 same) ∙ e in cc), writes_put_other at l n mo e)

every_store : (es : List Event) (mo : List Order) (x : Event) (at u : ℤ) → IsSerial es mo → x.label ≡ label.Store mode.Na at u
    → (e : ℕ) (l v : ℤ) → Stores (es ++ x ∷ []) e l v → (i : ℕ) × (slice_get (writes_of (put at (length es) mo) l) i ≡ Some e)
every_store es mo x at u kept is e l v s = elim (stores_cases es x e l v s) [
  | inl p ↦ (let old = kept.every e l v p in elim (grown mo (length es) at l kept.ascend) [
    | inl g ↦ (old.0, rw g.1 (get_more (writes_of mo l) (length es ∷ []) old.0 e old.1))
    | inr g ↦ (old.0, rw g.1 old.1)
  ])
  | inr q ↦ (let labels : label.Store mode.Na at u ≡ label.Store mode.Na l v = sym is ∙ q.1 in let same : at ≡ l = cc in
      elim (grown mo (length es) at l kept.ascend) [
        | inl g ↦ (length (writes_of mo l), rw (g.1, q.0) (get_last (writes_of mo l) (length es)))
        | inr g ↦ absurd (g.0 same)
      ])
]

only_store : (es : List Event) (mo : List Order) (x : Event) (at u : ℤ) → IsSerial es mo → x.label ≡ label.Store mode.Na at u
    → (l : ℤ) (i e : ℕ) → slice_get (writes_of (put at (length es) mo) l) i ≡ Some e → (v : ℤ) × Stores (es ++ x ∷ []) e l v
only_store es mo x at u kept is l i e h = elim (grown mo (length es) at l kept.ascend) [
  | inl g ↦ elim (get_cases (writes_of mo l) (length es) i e (rw g.1 at h)) [
    | inl p ↦ only_other es mo x kept l i e p
    | inr q ↦ (
      u,
      record {
        event = x;
        is = subst (λ n. slice_get (es ++ x ∷ []) n ≡ Some x) q.1 (get_last es x);
        stores = is ∙ ap (λ (k : ℤ). label.Store mode.Na k u) g.0;
      },
    )
  ]
  | inr g ↦ only_other es mo x kept l i e (rw g.1 at h)
]

rising_store : (es : List Event) (mo : List Order) (at : ℤ) → IsSerial es mo
    → (l : ℤ) (i j a b : ℕ) → i < j → slice_get (writes_of (put at (length es) mo) l) i ≡ Some a
    → slice_get (writes_of (put at (length es) mo) l) j ≡ Some b → a < b
rising_store es mo at kept l i j a b less h k = elim (grown mo (length es) at l kept.ascend) [
  | inl g ↦ elim (get_cases (writes_of mo l) (length es) j b (rw g.1 at k)) [
    | inl p ↦ (let under = get_within (writes_of mo l) j b p in
        kept.rising l i j a b less (get_before (writes_of mo l) (length es) i a (rw g.1 at h) (omega arith)) p)
    | inr q ↦ (let old = get_before (writes_of mo l) (length es) i a (rw g.1 at h) (omega arith) in
        let stored = kept.only l i a old in
        let under = stores_within es a l stored.0 stored.1 in
        omega arith)
  ]
  | inr g ↦ kept.rising l i j a b less (rw g.1 at h) (rw g.1 at k)
]

-- ---- the whole

other : (t : Trace) (x : Label) → IsSerial t.events t.mo → is_plain x ≡ true → IsNext t x → ((l v : ℤ) → x ≡ label.Store mode.Na l v → ⊥)
    → IsSerial (t.events ++ event_of t x ∷ []) t.mo
other t x kept plain next never = record {
  thread = thread_more t.events t.mo (event_of t x) kept refl;
  plain = plain_more t.events t.mo (event_of t x) kept plain;
  loads = loads_more t x kept next;
  others = others_more t x kept;
  ascend = kept.ascend;
  begun = kept.begun;
  every = every_other t.events t.mo (event_of t x) kept never;
  only = only_other t.events t.mo (event_of t x) kept;
  rising = kept.rising;
}

stored : (t : Trace) (l v : ℤ) → IsSerial t.events t.mo
    → IsSerial (t.events ++ event_of t (label.Store mode.Na l v) ∷ []) (put l (length t.events) t.mo)
stored t l v kept =
    let x = label.Store mode.Na l v in record {
      thread = thread_more t.events t.mo (event_of t x) kept refl;
      plain = plain_more t.events t.mo (event_of t x) kept refl;
      loads = loads_more t x kept tt;
      others = others_more t x kept;
      ascend = ascends_put l (length t.events) t.mo kept.ascend;
      begun = begun_put l (length t.events) t.mo kept.begun;
      every = every_store t.events t.mo (event_of t x) l v kept refl;
      only = only_store t.events t.mo (event_of t x) l v kept refl;
      rising = rising_store t.events t.mo l kept;
    }

-- one more event that the memory answers
pub serial_more : (t : Trace) (x : Label) → IsSerial t.events t.mo → is_plain x ≡ true → IsNext t x
    → IsSerial (recorded x t).events (recorded x t).mo
serial_more t (label.Store mode.Na l v) kept plain next = stored t l v kept
serial_more t (label.Store mode.Rlx l v) kept plain next = cc
serial_more t (label.Store mode.Acq l v) kept plain next = cc
serial_more t (label.Store mode.Rel l v) kept plain next = cc
serial_more t (label.Store mode.AcqRel l v) kept plain next = cc
serial_more t (label.Load m l v) kept plain next = other t (label.Load m l v) kept plain next (λ k u e. cc)
serial_more t (label.Alloc k l) kept plain next = other t (label.Alloc k l) kept plain next (λ k u e. cc)
serial_more t (label.Free l) kept plain next = cc
serial_more t (label.Rmw m l old new) kept plain next = cc
serial_more t (label.Fence m) kept plain next = cc
serial_more t (label.Fork ts) kept plain next = cc
serial_more t (label.Join rs) kept plain next = cc
serial_more t (label.Print v) kept plain next = other t (label.Print v) kept plain next (λ k u e. cc)
serial_more t (label.End v) kept plain next = other t (label.End v) kept plain next (λ k u e. cc)
