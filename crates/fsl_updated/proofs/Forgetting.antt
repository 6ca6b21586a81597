-- What stands at msg is taken out: forgotten, or the message that is divided.
use Rattle.std.proofs.Common.{◌≡◌, ℕ, Bool, true, false, not, ◌&&◌, cond, List, [], ◌∷◌, map, ℤ, refl, ap, sym, subst}
use Rattle.std.specs.List.{filter}
use Rattle.fsl_core.specs.declared.chunk.Chunk.{Chunk}
use Rattle.fsl_core.specs.declared.chunk.Chunk.TheVariants as chunk
use Rattle.fsl_core.specs.declared.mode.Rung.{Rung}
use Rattle.fsl_core.specs.declared.mode.Rung.TheVariants.{Msg}
use Rattle.fsl_core.specs.logic.States.{State}
use Rattle.fsl_core.specs.logic.Chunks.{same_rung}
use Rattle.fsl_core.specs.logic.Fences.{is_at, take_all}
use Rattle.fsl_core.specs.logic.Joining.{at_rung}
use Rattle.fsl_core.specs.logic.Messages.{untouched}
use Rattle.fsl_lin.specs.Numbers.{Numbers}
use Rattle.fsl_meaning.specs.Heaps.{Heap, nothing, Claim as claim, Ground}
use Rattle.fsl_meaning.specs.States.{Stands, EachStands, Owns, All, Fits}
use Rattle.fsl_meaning.specs.Branches.{Lands}
use Rattle.fsl_meaning.proofs.Calculus.{lands_give}
use Rattle.fsl_meaning.proofs.Heaps.{same_rung_is}
use Rattle.fsl_kept.specs.Changes.{lifted, without}
use Rattle.fsl_kept.proofs.Fences.{each_lifted, each_without}
use Rattle.fsl_passed.specs.Passing.{chunks_of, EachHeld, AllHeld}
use Rattle.fsl_updated.specs.Grounds.{forgetting}

-- ---- forgotten

still_known : (b k : Bool) → b ≡ false → k ≡ true → (not b && k) ≡ true
still_known true k e h = absurd (cc)
still_known false k e h = h

-- a chunk at another rung stands without what is forgotten
stands_forgotten : (g : Ground) (n : ℕ) (v : Numbers) (c : Chunk) (h : Heap) → is_at Msg c ≡ false → Stands g n v c h → Stands (forgetting g) n v c h
stands_forgotten g n v (chunk.Points r at share value) h e o =
    record { loc = o.loc; amount = o.amount; at_is = o.at_is; share_is = o.share_is; some = o.some; value_is = o.value_is; there = o.there }
stands_forgotten g n v (chunk.Init r at) h e o = record { loc = o.loc; at_is = o.at_is; known = still_known (same_rung r Msg) (g.knows (claim.IsInit r o.loc)) e o.known }
stands_forgotten g n v (chunk.Rel at inv args) h e o = record { loc = o.loc; numbers = o.numbers; at_is = o.at_is; args_are = o.args_are; known = o.known }
stands_forgotten g n v (chunk.Acq at inv args part out) h e o = record {
  loc = o.loc;
  numbers = o.numbers;
  excluded = o.excluded;
  at_is = o.at_is;
  args_are = o.args_are;
  out_are = o.out_are;
  known = o.known;
  within = o.within;
  there = o.there;
}
stands_forgotten g n v (chunk.RmwAcq at inv args) h e o = record { loc = o.loc; numbers = o.numbers; at_is = o.at_is; args_are = o.args_are; known = o.known }
stands_forgotten g n v (chunk.Tok bank k) h e o = o
stands_forgotten g n v (chunk.Auth bank k) h e o = record { number = o.number; bank_is = o.bank_is; count_is = o.count_is; there = o.there }

forgotten_by : (g : Ground) (n : ℕ) (v : Numbers) (c : Chunk) (cs : List Chunk) (h : Heap) (b : Bool) → is_at Msg c ≡ b → ((m : Heap) → EachStands g n v cs m → EachStands (forgetting g) n v cs m)
    → EachStands g n v (cond (not b) (c ∷ cs) cs) h → EachStands (forgetting g) n v (cond (not b) (c ∷ cs) cs) h
forgotten_by g n v c cs h true e rest o = rest h o
forgotten_by g n v c cs h false e rest o = (o.0, o.1, o.2, stands_forgotten g n v c o.0 e o.3, rest o.1 o.4)

each_forgotten : (g : Ground) (n : ℕ) (v : Numbers) (cs : List Chunk) (h : Heap) → EachStands g n v (filter (λ c. not (is_at Msg c)) cs) h
    → EachStands (forgetting g) n v (filter (λ c. not (is_at Msg c)) cs) h
each_forgotten g n v [] h o = tt
each_forgotten g n v (c ∷ cs) h o = forgotten_by g n v c (filter (λ d. not (is_at Msg d)) cs) h (is_at Msg c) refl (λ m p. each_forgotten g n v cs m p) o

pub lands_forget : {g : Ground} {slots : List ℤ} {v : Numbers} {s : State} {h : Heap} → Fits slots (All g h) v s
    → Lands s.next v (λ cs t w. Fits slots (All (forgetting g) (without Msg h)) w t) (take_all Msg s)
lands_forget {g = g} {v = v} {s = s} {h = h} fit = lands_give (filter (is_at Msg) s.chunks) (record s { chunks = filter (λ c. not (is_at Msg c)) s.chunks }) (record {
  one = fit.one;
  facts = fit.facts;
  env = fit.env;
  owns = record { each = each_forgotten g s.next v s.chunks (without Msg h) (each_without g s.next v Msg s.chunks h fit.owns.each) };
})

-- ---- divided

same_chunk : (c : Chunk) → is_at Msg c ≡ true → at_rung Msg c ≡ c
same_chunk (chunk.Points r at share value) e = ap (λ (q : Rung). chunk.Points q at share value) (sym (same_rung_is r Msg e))
same_chunk (chunk.Init r at) e = ap (λ (q : Rung). chunk.Init q at) (sym (same_rung_is r Msg e))
same_chunk c e = refl

same_by : (c : Chunk) (cs : List Chunk) (b : Bool) → is_at Msg c ≡ b → map (at_rung Msg) cs ≡ cs → map (at_rung Msg) (cond b (c ∷ cs) cs) ≡ cond b (c ∷ cs) cs
same_by c cs true e h = λ i. same_chunk c e i ∷ h i
same_by c cs false e h = h

same_chunks : (cs : List Chunk) → map (at_rung Msg) (filter (is_at Msg) cs) ≡ filter (is_at Msg) cs
same_chunks [] = refl
same_chunks (c ∷ cs) = same_by c (filter (is_at Msg) cs) (is_at Msg c) refl (same_chunks cs)

chunks_untouched : (cs : List Chunk) → cs ≡ chunks_of (map untouched cs)
chunks_untouched [] = refl
chunks_untouched (c ∷ cs) = ap (λ (ds : List Chunk). c ∷ ds) (chunks_untouched cs)

held_by : (n : ℕ) (v : Numbers) (c : Chunk) (cs : List Chunk) (b : Bool) → is_at Msg c ≡ b → EachHeld n v nothing (map untouched cs) → EachHeld n v nothing (map untouched (cond b (c ∷ cs) cs))
held_by n v c cs true e h = (record { at_msg = e; touched = λ t. absurd (let d : false ≡ true = t in cc) }, h)
held_by n v c cs false e h = h

each_held : (n : ℕ) (v : Numbers) (cs : List Chunk) → EachHeld n v nothing (map untouched (filter (is_at Msg) cs))
each_held n v [] = tt
each_held n v (c ∷ cs) = held_by n v c (filter (is_at Msg) cs) (is_at Msg c) refl (each_held n v cs)

-- the chunks of the message, of which nothing was taken yet, and those of the thread
pub record IsApart (g : Ground) (slots : List ℤ) (h : Heap) (cs : List Chunk) (s : State) (w : Numbers) : Type 0 where
  pub owns : Owns g s.next w (chunks_of (map untouched cs)) (lifted Msg Msg h)
  pub held : AllHeld s.next w nothing (map untouched cs)
  pub fits : Fits slots (All g (without Msg h)) w s

pub lands_apart : {g : Ground} {slots : List ℤ} {v : Numbers} {s : State} {h : Heap} → Fits slots (All g h) v s → Lands s.next v (λ cs t w. IsApart g slots h cs t w) (take_all Msg s)
lands_apart {g = g} {v = v} {s = s} {h = h} fit =
    let cs = filter (is_at Msg) s.chunks in
    let lifts : EachStands g s.next v cs (lifted Msg Msg h) = subst (λ (ds : List Chunk). EachStands g s.next v ds (lifted Msg Msg h)) (same_chunks s.chunks)
    (each_lifted g s.next v Msg Msg s.chunks h (λ l k. k) fit.owns.each) in
    lands_give cs (record s { chunks = filter (λ c. not (is_at Msg c)) s.chunks }) (record {
      owns = record { each = subst (λ (ds : List Chunk). EachStands g s.next v ds (lifted Msg Msg h)) (chunks_untouched cs) lifts };
      held = record { each = each_held s.next v s.chunks };
      fits = record { one = fit.one; facts = fit.facts; env = fit.env; owns = record { each = each_without g s.next v Msg s.chunks h fit.owns.each } };
    })
