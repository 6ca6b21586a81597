-- The lists of the numbers of chunks once a chunk is added, replaced or taken out.
use Rattle.std.proofs.Common.{◌≡◌, ℕ, zero, suc, ◌+◌, ◌*◌, ◌<◌, ◌≤◌, ◌==◌, Bool, true, false, ◌&&◌, List, [], ◌∷◌, ◌++◌, length, map, get_or, replicate, Option, Some, None, refl, sym, ap, ◌∙◌, arith}
use Rattle.std.proofs.lemmas.Grind.{get_or-set_at, common_steps}
use Rattle.std.proofs.lemmas.Bool.{eqb-true}
use Rattle.std.proofs.lemmas.List.{append-nil, get_or-set_other, length-map, length-set, length_push}
use Rattle.std.proofs.lemmas.List.Edits.{length-remove}
use Rattle.std.specs.Prelude.{if◌then◌else◌, slice_get, slice_set, remove}
use Rattle.std.specs.Option.{option_map}
use Rattle.fsl_core.specs.declared.chunk.Chunk.{Chunk}
use Rattle.fsl_core.specs.declared.mode.Rung.{Rung}
use Rattle.fsl_core.specs.declared.mode.Rung.TheVariants.{Plain, Up, Down, Msg}
use Rattle.fsl_core.specs.logic.Chunks.{same_rung}
use Rattle.fsl_chunk.specs.declared.kind.ChunkKind.{ChunkKind}
use Rattle.fsl_chunk.specs.declared.kind.ChunkKind.TheVariants.{Points, Init, Rel, Acq, RmwAcq, Tok, Auth}
use Rattle.fsl_chunk.specs.Kind.{kind_of, rung_of, kind_number, is_of, numbers_from, numbers_of}
use Rattle.fsl_chunk.specs.Numbers.{rung_number, list_number, without, IsIndexed}

-- ---- numbers of lists

pub rungs_same : (r s : Rung) → same_rung r s ≡ (rung_number r == rung_number s)
rungs_same Plain Plain = refl
rungs_same Plain Up = refl
rungs_same Plain Down = refl
rungs_same Plain Msg = refl
rungs_same Up Plain = refl
rungs_same Up Up = refl
rungs_same Up Down = refl
rungs_same Up Msg = refl
rungs_same Down Plain = refl
rungs_same Down Up = refl
rungs_same Down Down = refl
rungs_same Down Msg = refl
rungs_same Msg Plain = refl
rungs_same Msg Up = refl
rungs_same Msg Down = refl
rungs_same Msg Msg = refl

rung_few : (r : Rung) → rung_number r < 4
rung_few Plain = omega arith
rung_few Up = omega arith
rung_few Down = omega arith
rung_few Msg = omega arith

kind_few : (k : ChunkKind) → kind_number k < 7
kind_few Points = omega arith
kind_few Init = omega arith
kind_few Rel = omega arith
kind_few Acq = omega arith
kind_few RmwAcq = omega arith
kind_few Tok = omega arith
kind_few Auth = omega arith

pub list_few : (k : ChunkKind) (r : Rung) → list_number k r < 28
list_few k r =
    let a : kind_number k < 7 = kind_few k in
    let b : rung_number r < 4 = rung_few r in
    omega arith

-- two digits of base 4
digits_same : (a b r s : ℕ) → r < 4 → s < 4 → (a == b && r == s) ≡ (4 * a + r == 4 * b + s)
digits_same a b r s h k = grind arith

-- a chunk is in the list of its kind and rung, and in no other
own_list : (k : ChunkKind) (r : Rung) (c : Chunk) → is_of k r c ≡ (list_number (kind_of c) (rung_of c) == list_number k r)
own_list k r c =
    ap (λ b. kind_number (kind_of c) == kind_number k && b) (rungs_same (rung_of c) r)
    ∙ digits_same (kind_number (kind_of c)) (kind_number k) (rung_number (rung_of c)) (rung_number r) (rung_few (rung_of c)) (rung_few r)

-- ---- numbers of items

abbrev last_number : Bool → ℕ → List ℕ
last_number true n = n ∷ []
last_number false n = []

push_step : (b : Bool) (n : ℕ) (xs ys zs : List ℕ) → xs ≡ ys ++ zs → (if b then n ∷ xs else xs) ≡ (if b then n ∷ ys else ys) ++ zs
push_step true n xs ys zs h = ap (λ ns. n ∷ ns) h
push_step false n xs ys zs h = h

push_end : (b : Bool) (n : ℕ) → (if b then n ∷ [] else []) ≡ last_number b n
push_end true n = refl
push_end false n = refl

number_pushed : {C : Type 0} (n m : ℕ) (test : C → Bool) (cs : List C) (c : C) → n + length cs ≡ m
    → numbers_from n test (cs ++ c ∷ []) ≡ numbers_from n test cs ++ last_number (test c) m
number_pushed n m test [] c h = let e : n ≡ m = omega (arith, h) in rw e (push_end (test c) m)
number_pushed n m test (x ∷ cs) c h =
    push_step (test x) n (numbers_from (n + 1) test (cs ++ c ∷ [])) (numbers_from (n + 1) test cs) (last_number (test c) m)
    (number_pushed (n + 1) m test cs c (omega (arith, h)))

same_step : (a b : Bool) (n : ℕ) (xs ys : List ℕ) → a ≡ b → xs ≡ ys → (if a then n ∷ xs else xs) ≡ (if b then n ∷ ys else ys)
same_step true true n xs ys h k = ap (λ ns. n ∷ ns) k
same_step false false n xs ys h k = k
same_step true false n xs ys h k = absurd cc
same_step false true n xs ys h k = absurd cc

-- an item is replaced by one that passes the test as it did
number_set : {C : Type 0} (n i : ℕ) (test : C → Bool) (cs : List C) (c : C) → option_map test (slice_get cs i) ≡ Some (test c)
    → numbers_from n test (slice_set cs i c) ≡ numbers_from n test cs
number_set n i test [] c h = refl
number_set n zero test (x ∷ cs) c h =
    let e : test c ≡ test x = cc in
    same_step (test c) (test x) n (numbers_from (n + 1) test cs) (numbers_from (n + 1) test cs) e refl
number_set n (suc i) test (x ∷ cs) c h =
    same_step (test x) (test x) n (numbers_from (n + 1) test (slice_set cs i c)) (numbers_from (n + 1) test cs) refl (number_set (n + 1) i test cs c h)

-- numbers above the one that is gone become one less
lower_step : (b : Bool) (gone m : ℕ) (xs ys : List ℕ) → gone ≤ m → without gone xs ≡ ys
    → without gone (if b then (m + 1) ∷ xs else xs) ≡ (if b then m ∷ ys else ys)
lower_step true gone m xs ys h k = grind (arith, common_steps)
lower_step false gone m xs ys h k = k

all_lower : {C : Type 0} (gone m : ℕ) (test : C → Bool) (cs : List C) → gone ≤ m
    → without gone (numbers_from (m + 1) test cs) ≡ numbers_from m test cs
all_lower gone m test [] h = refl
all_lower gone m test (c ∷ cs) h =
    lower_step (test c) gone m (numbers_from (m + 1 + 1) test cs) (numbers_from (m + 1) test cs) h (all_lower gone (m + 1) test cs (omega arith))

-- the number itself goes
gone_step : (b : Bool) (gone : ℕ) (xs ys : List ℕ) → without gone xs ≡ ys → without gone (if b then gone ∷ xs else xs) ≡ ys
gone_step true gone xs ys k = grind (arith, common_steps)
gone_step false gone xs ys k = k

-- a number below it stays
below_step : (b : Bool) (gone n : ℕ) (xs ys : List ℕ) → n < gone → without gone xs ≡ ys
    → without gone (if b then n ∷ xs else xs) ≡ (if b then n ∷ ys else ys)
below_step true gone n xs ys h k = grind (arith, common_steps)
below_step false gone n xs ys h k = k

number_gone : {C : Type 0} (n gone i : ℕ) (test : C → Bool) (cs : List C) → i < length cs → n + i ≡ gone
    → without gone (numbers_from n test cs) ≡ numbers_from n test (remove cs i)
number_gone n gone i test [] h e = absurd (omega (arith, h))
number_gone n gone zero test (c ∷ cs) h e =
    let q : gone ≡ n = omega (arith, e) in
    rw q (gone_step (test c) n (numbers_from (n + 1) test cs) (numbers_from n test cs) (all_lower n n test cs (omega arith)))
number_gone n gone (suc i) test (c ∷ cs) h e =
    below_step (test c) gone n (numbers_from (n + 1) test cs) (numbers_from (n + 1) test (remove cs i)) (omega (arith, e))
    (number_gone (n + 1) gone i test cs (omega (arith, h)) (omega (arith, e)))

-- ---- lists of the heap

pub new_indexed : IsIndexed [] (replicate 28 [])
new_indexed = record { few = omega arith; many = refl; each = λ kind rung. none_in 28 (list_number kind rung) }
  where
    none_in : (n i : ℕ) → get_or (replicate n (let e : List ℕ = [] in e)) i [] ≡ []
    none_in zero i = refl
    none_in (suc n) zero = refl
    none_in (suc n) (suc i) = none_in n i

added_to : (lists : List (List ℕ)) (p q n : ℕ) (b : Bool) (before : List ℕ) → p < length lists → b ≡ (p == q) → get_or lists q [] ≡ before
    → get_or (slice_set lists p (get_or lists p [] ++ n ∷ [])) q [] ≡ before ++ last_number b n
added_to lists p q n true before h e k =
    let same : p ≡ q = eqb-true p q (sym e) in
    get_or-set_at lists p q (get_or lists p [] ++ n ∷ []) [] (sym same) h ∙ ap (λ xs. xs ++ n ∷ []) (ap (λ i. get_or lists i []) same ∙ k)
added_to lists p q n false before h e k =
    let apart : q ≡ p → ⊥ = λ s. grind (arith, common_steps) in
    get_or-set_other lists p q (get_or lists p [] ++ n ∷ []) [] apart ∙ k ∙ sym (append-nil before)

pub added_indexed : (chunks : List Chunk) (lists after : List (List ℕ)) (c : Chunk) → IsIndexed chunks lists → length chunks < 512
    → after ≡ slice_set lists (list_number (kind_of c) (rung_of c)) (get_or lists (list_number (kind_of c) (rung_of c)) [] ++ length chunks ∷ [])
    → IsIndexed (chunks ++ c ∷ []) after
added_indexed chunks lists after c h k e = rw e (record {
  few = rw (length_push chunks c) (omega (arith, k));
  many = length-set lists _ _ ∙ h.many;
  each = λ kind rung. added_to lists (list_number (kind_of c) (rung_of c)) (list_number kind rung) (length chunks) (is_of kind rung c) (numbers_of kind rung chunks)
      (rw h.many (list_few (kind_of c) (rung_of c))) (own_list kind rung c) (h.each kind rung)
      ∙ sym (number_pushed 0 (length chunks) (is_of kind rung) chunks c (omega arith));
})

without_at : (gone i : ℕ) (lists : List (List ℕ)) → get_or (map (without gone) lists) i [] ≡ without gone (get_or lists i [])
without_at gone i [] = refl
without_at gone zero (xs ∷ lists) = refl
without_at gone (suc i) (xs ∷ lists) = without_at gone i lists

pub removed_indexed : (chunks : List Chunk) (lists : List (List ℕ)) (i : ℕ) → IsIndexed chunks lists → i < length chunks
    → IsIndexed (remove chunks i) (map (without i) lists)
removed_indexed chunks lists i h k = record {
  few = let l : length (remove chunks i) + 1 ≡ length chunks = length-remove chunks i k in let f : length chunks ≤ 512 = h.few in omega (arith, l, f);
  many = length-map lists (without i) ∙ h.many;
  each = λ kind rung. without_at i (list_number kind rung) lists ∙ ap (without i) (h.each kind rung)
      ∙ number_gone 0 i i (is_of kind rung) chunks k (omega arith);
}

of_same : (kind : ChunkKind) (rung : Rung) (o : Option Chunk) (c : Chunk) → option_map kind_of o ≡ Some (kind_of c)
    → option_map rung_of o ≡ Some (rung_of c) → option_map (is_of kind rung) o ≡ Some (is_of kind rung c)
of_same kind rung None c h k = absurd cc
of_same kind rung (Some d) c h k =
    let a : kind_of d ≡ kind_of c = cc in
    let b : rung_of d ≡ rung_of c = cc in
    ap (λ x. Some (kind_number x == kind_number kind && same_rung (rung_of d) rung)) a
    ∙ ap (λ x. Some (kind_number (kind_of c) == kind_number kind && same_rung x rung)) b

pub replaced_indexed : (chunks : List Chunk) (lists : List (List ℕ)) (i : ℕ) (c : Chunk) → IsIndexed chunks lists
    → option_map kind_of (slice_get chunks i) ≡ Some (kind_of c) → option_map rung_of (slice_get chunks i) ≡ Some (rung_of c)
    → IsIndexed (slice_set chunks i c) lists
replaced_indexed chunks lists i c h k r = record {
  few = rw (length-set chunks i c) h.few;
  many = h.many;
  each = λ kind rung. h.each kind rung ∙ sym (number_set 0 i (is_of kind rung) chunks c (of_same kind rung (slice_get chunks i) c k r));
}
