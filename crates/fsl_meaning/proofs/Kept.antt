-- A state still fits where nothing changed of what it owns a part of, and what was known is.
use Rattle.std.proofs.Common.{◌≡◌, ℕ, ◌+◌, ◌≤◌, true, List, [], ◌∷◌, Option, Some, None, ℤ, sym, subst, arith}
use Rattle.fsl_core.specs.declared.chunk.Chunk.{Chunk}
use Rattle.fsl_core.specs.declared.chunk.Chunk.TheVariants as chunk
use Rattle.fsl_core.specs.logic.States.{State}
use Rattle.fsl_lin.specs.Combination.{Combination}
use Rattle.fsl_lin.specs.Numbers.{Numbers}
use Rattle.fsl_meaning.specs.Means.{IsKnown}
use Rattle.fsl_meaning.specs.Heaps.{Key, Key as key, Heap, Truth, Claim, Claim as claim, Ground, Needs, KnowsMore, Agrees, all_in}
use Rattle.fsl_meaning.specs.States.{Stands, EachStands, Owns, All, Fits}
use Rattle.fsl_meaning.proofs.Owned.{line_less}
use Rattle.fsl_meaning.proofs.Terms.{means_as}

pub agrees_less : {t later : Truth} (h more : Heap) → ((k : Key) → h k ≤ more k) → Agrees t later more → Agrees t later h
agrees_less h more l a = record {
  value = λ r c x some e. a.value r c x (line_less 1 (h (key.Cell r c)) (more (key.Cell r c)) some (l (key.Cell r c))) e;
  out = λ c p some. a.out c p (line_less 1 (h (key.Permission c p)) (more (key.Permission c p)) some (l (key.Permission c p)));
  bank = λ b some. a.bank b (line_less 1 (h (key.Bank b)) (more (key.Bank b)) some (l (key.Bank b)));
}

pub needs_less : (h more : Heap) → ((k : Key) → h k ≤ more k) → (c : Claim) → Needs h c → Needs more c
needs_less h more l (claim.IsInit r c) n = tt
needs_less h more l (claim.MayWrite c i xs) n = tt
needs_less h more l (claim.MayRead c i xs) n = (n.0, line_less 1 (h (key.Permission c n.0)) (more (key.Permission c n.0)) n.1 (l (key.Permission c n.0)))
needs_less h more l (claim.MayUpdate c i xs) n = tt

pub knows_less : {g later : Ground} (h more : Heap) → ((k : Key) → h k ≤ more k) → KnowsMore g later more → KnowsMore g later h
knows_less h more l k = record { more = λ c n e. k.more c (needs_less h more l c n) e }

known_kept : (n : ℕ) (v : Numbers) (t : Option Combination) (said other : Option ℤ) → ((x : ℤ) → said ≡ Some x → other ≡ Some x) → IsKnown n v t said → IsKnown n v t other
known_kept n v None said other e h = tt
known_kept n v (Some t) said other e h = record { number = h.number; is = e h.number h.is; means = h.means }

pub stands_kept : (g later : Ground) (n : ℕ) (v : Numbers) (c : Chunk) (h : Heap) → KnowsMore g later h → Agrees g.truth later.truth h → Stands g n v c h → Stands later n v c h
stands_kept g later n v (chunk.Points rung at share value) h k a o =
    let there = line_less 1 o.amount (h (key.Cell rung o.loc)) o.some o.there in
    record {
      loc = o.loc;
      amount = o.amount;
      at_is = o.at_is;
      share_is = o.share_is;
      some = o.some;
      value_is = known_kept n v value (g.truth.value o.loc) (later.truth.value o.loc) (λ x e. a.value rung o.loc x there e) o.value_is;
      there = o.there;
    }
stands_kept g later n v (chunk.Init rung at) h k a o = record { loc = o.loc; at_is = o.at_is; known = k.more (claim.IsInit rung o.loc) tt o.known }
stands_kept g later n v (chunk.Rel at inv args) h k a o =
    record { loc = o.loc; numbers = o.numbers; at_is = o.at_is; args_are = o.args_are; known = k.more (claim.MayWrite o.loc inv o.numbers) tt o.known }
stands_kept g later n v (chunk.Acq at inv args part out) h k a o = record {
  loc = o.loc;
  numbers = o.numbers;
  excluded = o.excluded;
  at_is = o.at_is;
  args_are = o.args_are;
  out_are = o.out_are;
  known = k.more (claim.MayRead o.loc inv o.numbers) (part, o.there) o.known;
  within = subst (λ (xs : List ℤ). all_in xs o.excluded ≡ true) (sym (a.out o.loc part o.there)) o.within;
  there = o.there;
}
stands_kept g later n v (chunk.RmwAcq at inv args) h k a o =
    record { loc = o.loc; numbers = o.numbers; at_is = o.at_is; args_are = o.args_are; known = k.more (claim.MayUpdate o.loc inv o.numbers) tt o.known }
stands_kept g later n v (chunk.Tok bank count) h k a o = o
stands_kept g later n v (chunk.Auth bank count) h k a o =
    record { number = o.number; bank_is = o.bank_is; count_is = means_as (sym (a.bank o.number o.there)) o.count_is; there = o.there }

line_left : (a b h : ℕ) → a + b ≤ h → a ≤ h
line_left a b h l = omega arith

line_right : (a b h : ℕ) → a + b ≤ h → b ≤ h
line_right a b h l = omega arith

each_kept : (g later : Ground) (n : ℕ) (v : Numbers) (cs : List Chunk) (h : Heap) → KnowsMore g later h → Agrees g.truth later.truth h → EachStands g n v cs h → EachStands later n v cs h
each_kept g later n v [] h k a o = tt
each_kept g later n v (c ∷ cs) h k a o =
    let left : (q : Key) → o.0 q ≤ h q = λ q. line_left (o.0 q) (o.1 q) (h q) (o.2 q) in
    let right : (q : Key) → o.1 q ≤ h q = λ q. line_right (o.0 q) (o.1 q) (h q) (o.2 q) in (
      o.0,
      o.1,
      o.2,
      stands_kept g later n v c o.0 (knows_less o.0 h left k) (agrees_less o.0 h left a) o.3,
      each_kept g later n v cs o.1 (knows_less o.1 h right k) (agrees_less o.1 h right a) o.4,
    )

pub owns_kept : {g : Ground} {n : ℕ} {v : Numbers} {cs : List Chunk} {h : Heap} (later : Ground) → KnowsMore g later h → Agrees g.truth later.truth h → Owns g n v cs h → Owns later n v cs h
owns_kept {g = g} {n = n} {v = v} {cs = cs} {h = h} later k a o = record { each = each_kept g later n v cs h k a o.each }

pub fits_kept : {g : Ground} {slots : List ℤ} {h : Heap} {v : Numbers} {s : State} (later : Ground) → KnowsMore g later h → Agrees g.truth later.truth h → Fits slots (All g h) v s → Fits slots (All later h) v s
fits_kept later k a f = record { one = f.one; facts = f.facts; env = f.env; owns = owns_kept later k a f.owns }
