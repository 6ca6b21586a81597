-- What several contracts require is taken out of a thread's pieces, one contract after the other; and what they ensure
-- comes back in front of them.
use Rattle.std.proofs.Common.{◌≡◌, ℕ, ◌+◌, ◌≤◌, List, [], ◌∷◌, ◌++◌, ℤ, sym, subst, arith}
use Rattle.fsl_core.specs.declared.label.Ended.{Ended}
use Rattle.fsl_core.specs.declared.need.Started.{Started as Start}
use Rattle.fsl_core.specs.Programs.{Program}
use Rattle.fsl_meaning.specs.Heaps.{Key, Heap}
use Rattle.fsl_asserted.specs.Needs.{Need}
use Rattle.fsl_kept.specs.Threads.{Started, all_needs, EachRequires, with_binders, EachEnsures}
use Rattle.fsl_own.specs.Atoms.{Atom}
use Rattle.fsl_good.specs.Pieces.{together, AtPlain, Piece, all_placed, Entails, IsPossible}
use Rattle.fsl_good.specs.Good.{EachPays}
use Rattle.fsl_held.specs.Heaps.{heap_of, ground_of, Kept}
use Rattle.fsl_held.specs.Asked.{Satisfies, logic_of}
use Rattle.fsl_held.proofs.Fronts.{front_is_kept}
use Rattle.fsl_held.proofs.Kept.{asked_is_kept}
use Rattle.fsl_held.proofs.Satisfied.{need_is_parted, front_satisfies}
use Rattle.fsl_walk.proofs.Rounds.{kept_self, kept_less, kept_then}
use Rattle.fsl_derived.proofs.Lists.{entails_self, entails_then, entails_behind, first_apart}
use Rattle.fsl_derived.proofs.Passing.{EachStarted, EachSatisfied, all_owed}

-- ---- taken out

line_first : (h n r x : ℕ) → h + (n + r) ≤ x → n ≤ x
line_first h n r x l = omega arith

line_others : (h n r x y : ℕ) → h + (n + r) ≤ x → x ≡ y + n → h + r ≤ y
line_others h n r x y l e = omega arith

line_more : (h r y : ℕ) → h + r ≤ y → h ≤ y
line_more h r y l = omega arith

line_needed : (h r y : ℕ) → h + r ≤ y → r ≤ y
line_needed h r y l = omega arith

line_one : (n r y : ℕ) → n + r ≤ y → n ≤ y
line_one n r y l = omega arith

line_rest : (n r y : ℕ) → n + r ≤ y → r ≤ y
line_rest n r y l = omega arith

line_none : (h x : ℕ) → h + 0 ≤ x → h ≤ x
line_none h x l = omega arith

-- what each requires is asked for on, where it is kept
requires_kept : (base xs : List Piece) (ks : List Started) (ns : List Need) → Kept base (heap_of xs) xs → ((k : Key) → all_needs ns k ≤ heap_of xs k) → EachRequires (ground_of base) ks ns
    → EachRequires (ground_of xs) ks ns
requires_kept base xs [] [] kept room h = tt
requires_kept base xs [] (n ∷ ns) kept room h = absurd h
requires_kept base xs (s ∷ ks) [] kept room h = absurd h
requires_kept base xs (s ∷ ks) (n ∷ ns) kept room h =
    let here = asked_is_kept base xs (heap_of xs) s.proc.pre s.numbers n kept (λ k. line_one (n.heap k) (all_needs ns k) (heap_of xs k) (room k)) (record { is = h.0; known = h.1 }) in
    (here.is, here.known, requires_kept base xs ks ns kept (λ k. line_rest (n.heap k) (all_needs ns k) (heap_of xs k) (room k)) h.2)

-- what all of them require was taken out of xs, and h is left
pub record CutAll (ks : List Started) (ns : List Need) (h : Heap) (xs : List Piece) : Type 0 where
  pub atoms : List (List Atom)
  pub rest : List Piece
  pub gives : Entails xs (all_placed AtPlain (together atoms) ++ rest)
  pub satisfied : EachSatisfied ks ns atoms
  pub kept : Kept xs h rest
  pub enough : (k : Key) → h k ≤ heap_of rest k

pub cut_all : (p : Program) (ds : List Start) (ks : List Started) (ns : List Need) (h : Heap) (xs : List Piece) → EachStarted p ds ks → IsPossible xs → EachRequires (ground_of xs) ks ns
    → ((k : Key) → h k + all_needs ns k ≤ heap_of xs k) → CutAll ks ns h xs
cut_all p [] [] [] h xs started possible asked room =
    record { atoms = []; rest = xs; gives = entails_self xs; satisfied = tt; kept = kept_self xs h; enough = λ k. line_none (h k) (heap_of xs k) (room k) }
cut_all p (d ∷ ds) (s ∷ ks) (n ∷ ns) h xs started possible asked room =
    let one = need_is_parted p.invs xs s.proc.pre s.numbers n possible started.0.pre_is_plain (record { is = asked.0; known = asked.1 })
    (λ k. line_first (h k) (n.heap k) (all_needs ns k) (heap_of xs k) (room k)) in
    let left : (k : Key) → h k + all_needs ns k ≤ heap_of one.rest k = λ k. line_others (h k) (n.heap k) (all_needs ns k) (heap_of xs k) (heap_of one.rest k) (room k) (one.left k) in
    let asked_on = requires_kept xs one.rest ks ns one.kept (λ k. line_needed (h k) (all_needs ns k) (heap_of one.rest k) (left k)) asked.2 in
    let more = cut_all p ds ks ns h one.rest started.1 one.possible asked_on left in
    record {
      atoms = one.atoms ∷ more.atoms;
      rest = more.rest;
      gives = entails_then one.gives (subst (λ (zs : List Piece). Entails (all_placed AtPlain one.atoms ++ one.rest) zs) (sym (first_apart one.atoms more.atoms more.rest))
          (entails_behind (all_placed AtPlain one.atoms) more.gives));
      satisfied = (one.satisfies, more.satisfied);
      kept = kept_then (kept_less h (heap_of one.rest) (λ k. line_more (h k) (all_needs ns k) (heap_of one.rest k) (left k)) one.kept) more.kept;
      enough = more.enough;
    }
cut_all p [] (s ∷ ks) ns h xs started possible asked room = absurd started
cut_all p (d ∷ ds) [] ns h xs started possible asked room = absurd started
cut_all p [] [] (n ∷ ns) h xs started possible asked room = absurd asked
cut_all p (d ∷ ds) (s ∷ ks) [] h xs started possible asked room = absurd asked

-- ---- given back

abbrev pub values_of : List Ended → List ℤ
values_of [] = []
values_of (r ∷ rs) = r.value ∷ values_of rs

line_sum : (n r w x y : ℕ) → n + x ≤ y → r + w ≤ x → (n + r) + w ≤ y
line_sum n r w x y l m = omega arith

line_left : (r w x : ℕ) → r + w ≤ x → r ≤ x
line_left r w x l = omega arith

line_right : (r w x : ℕ) → r + w ≤ x → w ≤ x
line_right r w x l = omega arith

line_start : (w : ℕ) → 0 + w ≤ w
line_start w = omega arith

ensures_kept : (base xs : List Piece) (h : Heap) (ks : List Started) (rs : List ℤ) (ns : List Need) → Kept base h xs → ((k : Key) → all_needs ns k ≤ h k) → EachEnsures (ground_of base) ks rs ns
    → EachEnsures (ground_of xs) ks rs ns
ensures_kept base xs h [] rs ns kept room e = tt
ensures_kept base xs h (s ∷ ks) [] ns kept room e = absurd e
ensures_kept base xs h (s ∷ ks) (r ∷ rs) [] kept room e = absurd e
ensures_kept base xs h (s ∷ ks) (r ∷ rs) (n ∷ ns) kept room e =
    let here = asked_is_kept base xs h s.proc.post (s.numbers ++ r ∷ []) n kept (λ k. line_one (n.heap k) (all_needs ns k) (h k) (room k)) (record { is = e.0; known = e.1 }) in
    (here.is, here.known, ensures_kept base xs h ks rs ns kept (λ k. line_rest (n.heap k) (all_needs ns k) (h k) (room k)) e.2)

-- what all of them ensure stands in front of xs
pub record PaidAll (ks : List Started) (rs : List ℤ) (xs ys : List Piece) : Type 0 where
  pub needs : List Need
  pub ensures : EachEnsures (ground_of ys) ks rs needs
  pub room : (k : Key) → all_needs needs k + heap_of xs k ≤ heap_of ys k
  pub kept : Kept xs (heap_of xs) ys

paid_step : (s : Started) (n m : Need) (r : ℤ) (ys : List Atom) (yss : List (List Atom)) (xs : List Piece) (ks : List Started) (rs : List ℤ) → Satisfies s.proc.post (n.env ++ r ∷ []) m ys
    → IsPossible (all_placed AtPlain ys ++ (all_placed AtPlain (together yss) ++ xs))
    → PaidAll ks rs xs (all_placed AtPlain (together yss) ++ xs)
    → PaidAll (record { proc = s.proc; numbers = n.env } ∷ ks) (r ∷ rs) xs (all_placed AtPlain ys ++ (all_placed AtPlain (together yss) ++ xs))
paid_step s n m r ys yss xs ks rs pays possible more =
    let behind : List Piece = all_placed AtPlain (together yss) ++ xs in
    let all : List Piece = all_placed AtPlain ys ++ behind in
    let front = front_is_kept (all_placed AtPlain ys) behind possible in
    let here = front_satisfies ys behind s.proc.post (n.env ++ r ∷ []) m pays possible in
    record {
      needs = m ∷ more.needs;
      ensures = (
        here.0.is,
        here.0.known,
        ensures_kept behind all (heap_of behind) ks rs more.needs front.behind
            (λ k. line_left (all_needs more.needs k) (heap_of xs k) (heap_of behind k) (more.room k)) more.ensures,
      );
      room = λ k. line_sum (m.heap k) (all_needs more.needs k) (heap_of xs k) (heap_of behind k) (heap_of all k) (here.1 k) (more.room k);
      kept = kept_then more.kept (kept_less (heap_of xs) (heap_of behind) (λ k. line_right (all_needs more.needs k) (heap_of xs k) (heap_of behind k) (more.room k)) front.behind);
    }

nothing_paid : (ks : List Started) (rs : List ℤ) (xs : List Piece) → EachEnsures (ground_of xs) ks rs [] → PaidAll ks rs xs xs
nothing_paid ks rs xs e = record { needs = []; ensures = e; room = λ k. line_start (heap_of xs k); kept = kept_self xs (heap_of xs) }

pub paid_all : (p : Program) (ks : List Started) (ns : List Need) (rs : List Ended) (yss : List (List Atom)) (xs : List Piece) → EachPays (logic_of p) (all_owed ks ns) rs yss
    → IsPossible (all_placed AtPlain (together yss) ++ xs) → PaidAll (with_binders ks ns) (values_of rs) xs (all_placed AtPlain (together yss) ++ xs)
paid_all p [] ns [] [] xs pays possible = nothing_paid [] [] xs tt
paid_all p (s ∷ ks) [] [] [] xs pays possible = nothing_paid [] [] xs tt
paid_all p (s ∷ ks) (n ∷ ns) (r ∷ rs) (ys ∷ yss) xs pays possible =
    let may = subst (λ (zs : List Piece). IsPossible zs) (first_apart ys yss xs) possible in
    let front = front_is_kept (all_placed AtPlain ys) (all_placed AtPlain (together yss) ++ xs) may in
    subst (λ (zs : List Piece). PaidAll (with_binders (s ∷ ks) (n ∷ ns)) (values_of (r ∷ rs)) xs zs) (sym (first_apart ys yss xs))
    (paid_step s n pays.0.0 r.value ys yss xs (with_binders ks ns) (values_of rs) pays.0.1 may (paid_all p ks ns rs yss xs pays.1 front.possible))
paid_all p [] ns [] (ys ∷ yss) xs pays possible = absurd pays
paid_all p [] ns (r ∷ rs) yss xs pays possible = absurd pays
paid_all p (s ∷ ks) [] [] (ys ∷ yss) xs pays possible = absurd pays
paid_all p (s ∷ ks) [] (r ∷ rs) yss xs pays possible = absurd pays
paid_all p (s ∷ ks) (n ∷ ns) [] yss xs pays possible = absurd pays
paid_all p (s ∷ ks) (n ∷ ns) (r ∷ rs) [] xs pays possible = absurd pays
