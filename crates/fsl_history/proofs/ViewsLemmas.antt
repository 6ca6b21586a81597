-- What an event makes of the views of its thread: they grow and stay sound, and see what the event reads, writes,
-- acquires and waits for.
use Rattle.std.proofs.Common.{◌≡◌, ◌≤◌, ℕ, ℤ, Bool, true, false, cond, List, Option, Some, None, refl, ap, sym, subst, ◌∙◌, arith}
use Rattle.std.specs.Ordering.{int_eq}
use Rattle.std.proofs.lemmas.Bool.Decides.{Decides-int_eq}
use Rattle.fsl_core.specs.declared.label.Ended.{Ended}
use Rattle.fsl_core.specs.declared.label.Label.{Label}
use Rattle.fsl_core.specs.declared.label.Label.TheVariants as label
use Rattle.fsl_core.specs.declared.mode.Mode.{Mode}
use Rattle.fsl_core.specs.declared.mode.Mode.TheVariants as mode
use Rattle.fsl_graph.specs.Events.{Touch, Touches, read_by, written_by, is_atomic, acquires, releases}
use Rattle.fsl_history.specs.Views.{Le, Views, started, when, either, fenced_by, joined_by, after_read, after_write, after_fence, after_join, effect, sent, message_view}
use Rattle.fsl_view.specs.Seen.{Seen, unseen, joined, only, raised}

-- ---- seen no further

pub le_refl : (v : Seen) → Le v v
le_refl v = record { at = λ l. omega arith }

pub le_trans : (u v w : Seen) → Le u v → Le v w → Le u w
le_trans u v w a b = record { at = λ l. (let x = a.at l in let y = b.at l in omega (arith, x, y)) }

pub le_unseen : (v : Seen) → Le unseen v
le_unseen v = record { at = λ l. omega arith }

pub le_left : (v w : Seen) → Le v (joined v w)
le_left v w = record { at = λ l. omega arith }

pub le_right : (v w : Seen) → Le w (joined v w)
le_right v w = record { at = λ l. omega arith }

pub joined_le : (u v w : Seen) → Le u w → Le v w → Le (joined u v) w
joined_le u v w a b = record { at = λ l. (let x = a.at l in let y = b.at l in omega (arith, x, y)) }

pub le_same : (v w : Seen) → v ≡ w → Le v w
le_same v w e = subst (λ (u : Seen). Le v u) e (le_refl v)

pub only_at : (l : ℤ) (t : ℕ) → only l t l ≡ t
only_at l t = let same : int_eq l l ≡ true = (Decides-int_eq l l).1 refl in rw same refl

only_below : (b : Bool) (t : ℕ) → cond b t 0 ≤ t
only_below true t = omega arith
only_below false t = omega arith

-- ---- sound views, and views that grow

pub record IsSound (w : Views) : Type 0 where
  pub rel : Le w.rel w.cur
  pub cur : Le w.cur w.acq

pub record Grows (v w : Views) : Type 0 where
  pub cur : Le v.cur w.cur
  pub acq : Le v.acq w.acq
  pub rel : Le v.rel w.rel

pub grows_refl : (v : Views) → Grows v v
grows_refl v = record { cur = le_refl v.cur; acq = le_refl v.acq; rel = le_refl v.rel }

pub grows_trans : (u v w : Views) → Grows u v → Grows v w → Grows u w
grows_trans u v w a b = record {
  cur = le_trans u.cur v.cur w.cur a.cur b.cur;
  acq = le_trans u.acq v.acq w.acq a.acq b.acq;
  rel = le_trans u.rel v.rel w.rel a.rel b.rel;
}

pub sound_started : (v : Seen) → IsSound (started v)
sound_started v = record { rel = le_unseen v; cur = le_refl v }

-- ---- the four parts of an effect

got_below : (m : Mode) (n : ℕ) → cond (acquires m) n 0 ≤ cond (is_atomic m) n 0
got_below mode.Na n = omega arith
got_below mode.Rlx n = omega arith
got_below mode.Acq n = omega arith
got_below mode.Rel n = omega arith
got_below mode.AcqRel n = omega arith

read_grows : (o : Option Touch) (t : ℕ) (v : Seen) (w : Views) → Grows w (after_read o t v w)
read_grows None t v w = grows_refl w
read_grows (Some (Touches m l x)) t v w = record {
  cur = record { at = λ k. omega arith };
  acq = record { at = λ k. omega arith };
  rel = le_refl w.rel;
}

read_sound : (o : Option Touch) (t : ℕ) (v : Seen) (w : Views) → IsSound w → IsSound (after_read o t v w)
read_sound None t v w s = s
read_sound (Some (Touches m l x)) t v w s = record {
  rel = record { at = λ k. (let a = s.rel.at k in omega (arith, a)) };
  cur = record { at = λ k. (let a = s.cur.at k in let b = got_below m (v k) in omega (arith, a, b)) };
}

write_grows : (o : Option Touch) (t : ℕ) (w : Views) → Grows w (after_write o t w)
write_grows None t w = grows_refl w
write_grows (Some (Touches m l x)) t w = record {
  cur = record { at = λ k. omega arith };
  acq = record { at = λ k. omega arith };
  rel = le_refl w.rel;
}

write_sound : (o : Option Touch) (t : ℕ) (w : Views) → IsSound w → IsSound (after_write o t w)
write_sound None t w s = s
write_sound (Some (Touches m l x)) t w s = record {
  rel = record { at = λ k. (let a = s.rel.at k in omega (arith, a)) };
  cur = record { at = λ k. (let a = s.cur.at k in omega (arith, a)) };
}

join_grows : (o : Option (List Ended)) (v : Seen) (w : Views) → Grows w (after_join o v w)
join_grows None v w = grows_refl w
join_grows (Some rs) v w = record { cur = le_left w.cur v; acq = le_left w.acq v; rel = le_refl w.rel }

join_sound : (o : Option (List Ended)) (v : Seen) (w : Views) → IsSound w → IsSound (after_join o v w)
join_sound None v w s = s
join_sound (Some rs) v w s = record {
  rel = record { at = λ k. (let a = s.rel.at k in omega (arith, a)) };
  cur = record { at = λ k. (let a = s.cur.at k in omega (arith, a)) };
}

-- the view that a fence leaves as cur
acquired : (b : Bool) (w : Views) → IsSound w → Le w.cur (either b w.acq w.cur) × Le (either b w.acq w.cur) w.acq
acquired true w s = (record { at = λ k. s.cur.at k }, record { at = λ k. (let a = s.cur.at k in omega arith) })
acquired false w s = (record { at = λ k. omega arith }, record { at = λ k. s.cur.at k })

released : (b : Bool) (v : Seen) (w : Views) → IsSound w → Le w.cur v → Le w.rel (either b v w.rel) × Le (either b v w.rel) v
released true v w s le = (record { at = λ k. (let a = s.rel.at k in let c = le.at k in omega (arith, a, c)) }, record { at = λ k. omega arith })
released false v w s le = (record { at = λ k. omega arith }, record { at = λ k. (let a = s.rel.at k in let c = le.at k in omega (arith, a, c)) })

fence_grows : (o : Option Mode) (w : Views) → IsSound w → Grows w (after_fence o w)
fence_grows None w s = grows_refl w
fence_grows (Some m) w s =
    let a = acquired (acquires m) w s in
    record { cur = a.0; acq = le_refl w.acq; rel = (released (releases m) (either (acquires m) w.acq w.cur) w s a.0).0 }

fence_sound : (o : Option Mode) (w : Views) → IsSound w → IsSound (after_fence o w)
fence_sound None w s = s
fence_sound (Some m) w s =
    let a = acquired (acquires m) w s in
    record { rel = (released (releases m) (either (acquires m) w.acq w.cur) w s a.0).1; cur = a.1 }

-- ---- the whole effect

pub effect_sound : (x : Label) (from to : ℕ) (got ended : Seen) (w : Views) → IsSound w → IsSound (effect x from to got ended w)
effect_sound x from to got ended w s =
    let joins = after_join (joined_by x) ended w in
    let fences = after_fence (fenced_by x) joins in
    let reads = after_read (read_by x) from got fences in
    write_sound (written_by x) to reads (read_sound (read_by x) from got fences (fence_sound (fenced_by x) joins (join_sound (joined_by x) ended w s)))

-- what a read has left of the effect, the write takes nothing from it
after_reading : (x : Label) (from to : ℕ) (got ended : Seen) (w : Views)
    → Grows (after_read (read_by x) from got (after_fence (fenced_by x) (after_join (joined_by x) ended w))) (effect x from to got ended w)
after_reading x from to got ended w = write_grows (written_by x) to (after_read (read_by x) from got (after_fence (fenced_by x) (after_join (joined_by x) ended w)))

pub effect_grows : (x : Label) (from to : ℕ) (got ended : Seen) (w : Views) → IsSound w → Grows w (effect x from to got ended w)
effect_grows x from to got ended w s =
    let joins = after_join (joined_by x) ended w in
    let fences = after_fence (fenced_by x) joins in
    let reads = after_read (read_by x) from got fences in
    grows_trans w joins _ (join_grows (joined_by x) ended w)
    (grows_trans joins fences _ (fence_grows (fenced_by x) joins (join_sound (joined_by x) ended w s))
    (grows_trans fences reads _ (read_grows (read_by x) from got fences) (after_reading x from to got ended w)))

-- ---- what it sees

read_sees : (o : Option Touch) (m : Mode) (l v : ℤ) (t : ℕ) (got : Seen) (w : Views) → o ≡ Some (Touches m l v) → t ≤ (after_read o t got w).cur l
read_sees o m l v t got w e = rw e (let at = only_at l t in omega (arith, at))

read_gets : (o : Option Touch) (m : Mode) (l v : ℤ) (t : ℕ) (got : Seen) (w : Views) → o ≡ Some (Touches m l v) → is_atomic m ≡ true
    → Le got (after_read o t got w).acq
read_gets o m l v t got w e atomic = rw e (record { at = λ k. (let at : cond (is_atomic m) (got k) 0 ≡ got k = rw atomic refl in omega (arith, at)) })

read_acquires : (o : Option Touch) (m : Mode) (l v : ℤ) (t : ℕ) (got : Seen) (w : Views) → o ≡ Some (Touches m l v) → acquires m ≡ true
    → Le got (after_read o t got w).cur
read_acquires o m l v t got w e so = rw e (record { at = λ k. (let at : cond (acquires m) (got k) 0 ≡ got k = rw so refl in omega (arith, at)) })

pub effect_reads : (x : Label) (m : Mode) (l v : ℤ) (from to : ℕ) (got ended : Seen) (w : Views) → read_by x ≡ Some (Touches m l v)
    → from ≤ (effect x from to got ended w).cur l
effect_reads x m l v from to got ended w e =
    let fences = after_fence (fenced_by x) (after_join (joined_by x) ended w) in
    let a = read_sees (read_by x) m l v from got fences e in
    let b = (after_reading x from to got ended w).cur.at l in
    omega (arith, a, b)

pub effect_gets : (x : Label) (m : Mode) (l v : ℤ) (from to : ℕ) (got ended : Seen) (w : Views) → read_by x ≡ Some (Touches m l v)
    → is_atomic m ≡ true → Le got (effect x from to got ended w).acq
effect_gets x m l v from to got ended w e atomic =
    let fences = after_fence (fenced_by x) (after_join (joined_by x) ended w) in
    le_trans got _ _ (read_gets (read_by x) m l v from got fences e atomic) (after_reading x from to got ended w).acq

pub effect_acquires : (x : Label) (m : Mode) (l v : ℤ) (from to : ℕ) (got ended : Seen) (w : Views) → read_by x ≡ Some (Touches m l v)
    → acquires m ≡ true → Le got (effect x from to got ended w).cur
effect_acquires x m l v from to got ended w e so =
    let fences = after_fence (fenced_by x) (after_join (joined_by x) ended w) in
    le_trans got _ _ (read_acquires (read_by x) m l v from got fences e so) (after_reading x from to got ended w).cur

write_sees : (o : Option Touch) (m : Mode) (l v : ℤ) (t : ℕ) (w : Views) → o ≡ Some (Touches m l v) → t ≤ (after_write o t w).cur l
write_sees o m l v t w e = rw e (let at = only_at l t in omega (arith, at))

pub effect_writes : (x : Label) (m : Mode) (l v : ℤ) (from to : ℕ) (got ended : Seen) (w : Views) → written_by x ≡ Some (Touches m l v)
    → to ≤ (effect x from to got ended w).cur l
effect_writes x m l v from to got ended w e = write_sees (written_by x) m l v to _ e

-- an acquire fence has what was got before
pub effect_fences : (x : Label) (m : Mode) (from to : ℕ) (got ended : Seen) (w : Views) → x ≡ label.Fence m → acquires m ≡ true
    → Le w.acq (effect x from to got ended w).cur
effect_fences x m from to got ended w e so = rw (e, so) (le_refl w.acq)

-- a release fence sets apart what it has
pub effect_sets_apart : (x : Label) (m : Mode) (from to : ℕ) (got ended : Seen) (w : Views) → x ≡ label.Fence m → releases m ≡ true
    → Le (effect x from to got ended w).cur (effect x from to got ended w).rel
effect_sets_apart x m from to got ended w e so = rw (e, so) (le_refl (either (acquires m) w.acq w.cur))

pub effect_joins : (x : Label) (rs : List Ended) (from to : ℕ) (got ended : Seen) (w : Views) → x ≡ label.Join rs
    → Le ended (effect x from to got ended w).cur
effect_joins x rs from to got ended w e = rw e (le_right w.cur ended)

-- ---- messages

pub sent_releases : (m : Mode) (w : Views) → releases m ≡ true → sent m w ≡ w.cur
sent_releases mode.Na w e = cc
sent_releases mode.Rlx w e = cc
sent_releases mode.Acq w e = cc
sent_releases mode.Rel w e = refl
sent_releases mode.AcqRel w e = refl

pub sent_atomic : (m : Mode) (w : Views) → IsSound w → is_atomic m ≡ true → Le w.rel (sent m w)
sent_atomic mode.Na w s e = cc
sent_atomic mode.Rlx w s e = le_refl w.rel
sent_atomic mode.Acq w s e = le_refl w.rel
sent_atomic mode.Rel w s e = s.rel
sent_atomic mode.AcqRel w s e = s.rel

sent_within : (m : Mode) (w : Views) → IsSound w → Le (sent m w) w.cur
sent_within mode.Na w s = le_unseen w.cur
sent_within mode.Rlx w s = s.rel
sent_within mode.Acq w s = s.rel
sent_within mode.Rel w s = le_refl w.cur
sent_within mode.AcqRel w s = le_refl w.cur

-- what a message has at its own location
pub message_at : (m : Mode) (l k v : ℤ) (t : ℕ) (got : Seen) (w : Views) → IsSound w → w.cur k ≤ t → got k ≤ t
    → message_view (Some (Touches m l v)) got w k ≤ t
message_at m l k v t got w s a b = let c = (sent_within m w s).at k in omega (arith, a, b, c)

-- a write has seen its location up to its own message
pub effect_within : (x : Label) (m : Mode) (l v : ℤ) (from to : ℕ) (got ended : Seen) (w : Views) → written_by x ≡ Some (Touches m l v)
    → w.cur l ≤ to → from ≤ to → got l ≤ to → (effect x from to got ended w).cur l ≤ to
effect_within (label.Store n k u) m l v from to got ended w e a b c =
    let at = only_below (int_eq k l) to in
    omega (arith, a, at)
effect_within (label.Rmw n k u y) m l v from to got ended w e a b c =
    let at = only_below (int_eq k l) to in
    let under = only_below (int_eq k l) from in
    let some = only_below (acquires n) (got l) in
    omega (arith, a, b, c, at, under, some)
effect_within (label.Alloc n k) m l v from to got ended w e a b c = cc
effect_within (label.Free k) m l v from to got ended w e a b c = cc
effect_within (label.Load n k u) m l v from to got ended w e a b c = cc
effect_within (label.Fence n) m l v from to got ended w e a b c = cc
effect_within (label.Fork ts) m l v from to got ended w e a b c = cc
effect_within (label.Join rs) m l v from to got ended w e a b c = cc
effect_within (label.Print u) m l v from to got ended w e a b c = cc
effect_within (label.End u) m l v from to got ended w e a b c = cc
