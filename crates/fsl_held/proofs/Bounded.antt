-- Nobody has more than there is: what is possible is bounded as a heap.
use Rattle.std.proofs.Common.{◌≡◌, ℕ, ◌+◌, ◌≤◌, List, Option, Some, None, ℤ, pos, negsuc, ◌≤ℤ◌, refl, arith}
use Rattle.std.proofs.lemmas.Int.{ints}
use Rattle.fsl_meaning.specs.Heaps.{Key as key}
use Rattle.fsl_own.specs.Owning.{Resource as resource, limit}
use Rattle.fsl_good.specs.Pieces.{AtPlain, AtUp, AtDown, Piece, demand_at, IsPossible}
use Rattle.fsl_held.specs.Heaps.{heap_of, or_this, count_in, tokens_at, bank_in}
use Rattle.fsl_held.specs.Laws.{HeapIsBounded}
use Rattle.fsl_held.proofs.Heaps.{count_said}

line_three : (a b c m : ℕ) → a + (b + c) ≤ m → a + (b + (c + 0)) ≤ m
line_three a b c m h = omega arith

line_one : (a b c m : ℕ) → a + (b + c) ≤ m → a ≤ m
line_one a b c m h = omega arith

line_none : (m : ℕ) → 0 ≤ m
line_none m = omega arith

whole : (n m : ℕ) → n ≤ m → pos n ≤ℤ pos m
whole n m h = omega (arith, ints)

-- what a list has of a resource at plain
pub plain_within : (xs : List Piece) → (p : IsPossible xs) → (r : resource) → demand_at AtPlain xs r ≤ limit p.known r
plain_within xs p r = line_one (demand_at AtPlain xs r) (demand_at AtUp xs r) (demand_at AtDown xs r) (limit p.known r) (p.within r)

bank_more : (xs : List Piece) (p : IsPossible xs) (b : ℕ) → pos (tokens_at xs (pos b)) ≤ℤ bank_in xs (pos b)
bank_more xs p b = by_case (count_in xs b) refl
  where
    by_case : (o : Option ℕ) → count_in xs b ≡ o → pos (tokens_at xs (pos b)) ≤ℤ pos (or_this o (tokens_at xs (pos b)))
    by_case None e = whole (tokens_at xs (pos b)) (tokens_at xs (pos b)) (omega arith)
    by_case (Some n) e =
        let known : p.known.counts b ≡ n = count_said p.known b n xs p.agree e in
        let most : demand_at AtPlain xs (resource.Tokens b) ≤ p.known.counts b = plain_within xs p (resource.Tokens b) in
        whole (tokens_at xs (pos b)) n (omega arith)

pub heap_is_bounded : HeapIsBounded
heap_is_bounded xs p = record {
  cells = λ l.
      let r = resource.Cell l in
      line_three (demand_at AtPlain xs r) (demand_at AtUp xs r) (demand_at AtDown xs r) (limit p.known r) (p.within r);
  tokens = tokens;
  alone = alone;
  once = λ l part. plain_within xs p (resource.Permission l part);
}
  where
    tokens : (b : ℤ) → pos (tokens_at xs b) ≤ℤ bank_in xs b
    tokens (pos b) = bank_more xs p b
    tokens (negsuc b) = whole 0 0 (omega arith)

    alone : (b : ℤ) → heap_of xs (key.Bank b) ≤ 1
    alone (pos b) = plain_within xs p (resource.Bank b)
    alone (negsuc b) = line_none 1
