-- No two different ends have their causes together.
use Rattle.std.proofs.Common.{arith, ◌≡◌, ◌∙◌, ◌<◌, ℕ, inl, inr, length, sym}
use Rattle.std.proofs.lemmas.Bool.{cases_order}
use Rattle.fsl_core.specs.Moves.{Config, running, joining, returned, halted, failed}
use Rattle.fsl_graph.specs.declared.graph.Graph.{Graph}
use Rattle.fsl_graph.specs.declared.ending.End.TheVariants as ends
use Rattle.fsl_graph.specs.Ending.{IsReady, IsReturned, IsStuck}
use Rattle.fsl_run.specs.Laws.{HasOneEnd}

not_stuck : (c : Config) → IsReturned c → IsStuck c → ⊥
not_stuck c r s = elim s [
  | inl h ↦ (let e : returned r.0 ≡ halted = sym r.1 ∙ h in cc)
  | inr f ↦ (let e : returned r.0 ≡ failed = sym r.1 ∙ f in cc)
]

not_ready : (last : ℕ → Config) (c : Config) → IsReturned c → IsReady last c → ⊥
not_ready last (running f fs) r ready = (let e = r.1 in absurd cc)
not_ready last (joining first count f fs) r ready = (let e = r.1 in absurd cc)
not_ready last (returned v) r ready = ready
not_ready last halted r ready = ready
not_ready last failed r ready = ready

-- all have returned, and thread t is ready
none_ready : (g : Graph) (last : ℕ → Config) → ((t : ℕ) → t < length g.threads → IsReturned (last t))
    → ((t : ℕ) × (t < length g.threads) × IsReady last (last t)) → ⊥
none_ready g last all one = not_ready last (last one.0) (all one.0 one.1) one.2

pub has_one_end : HasOneEnd
has_one_end p bound g last is ends.Finished ends.Finished x y = tt
has_one_end p bound g last is ends.Finished ends.Spent x y = absurd (none_ready g last x y.1)
has_one_end p bound g last is ends.Finished (ends.Halted t) x y = absurd (not_stuck (last t) (x t y.0) y.1)
has_one_end p bound g last is ends.Finished (ends.Limit k) x y = absurd (none_ready g last x (y.1.0, y.1.1, y.1.2))
has_one_end p bound g last is ends.Spent ends.Finished x y = absurd (none_ready g last y x.1)
has_one_end p bound g last is ends.Spent ends.Spent x y = tt
has_one_end p bound g last is ends.Spent (ends.Halted t) x y = absurd (y.3 x.1.0 x.1.1 x.1.2)
has_one_end p bound g last is ends.Spent (ends.Limit k) x y = (let e = x.0 in let l = y.0 in absurd (omega (arith, e, l)))
has_one_end p bound g last is (ends.Halted t) ends.Finished x y = absurd (not_stuck (last t) (y t x.0) x.1)
has_one_end p bound g last is (ends.Halted t) ends.Spent x y = absurd (x.3 y.1.0 y.1.1 y.1.2)
has_one_end p bound g last is (ends.Halted t) (ends.Halted u) x y = elim (cases_order t u) [
  | inl same ↦ same
  | inr (inl less) ↦ absurd (y.2 t less x.1)
  | inr (inr more) ↦ absurd (x.2 u more y.1)
]
has_one_end p bound g last is (ends.Halted t) (ends.Limit k) x y = absurd (x.3 y.1.0 y.1.1 y.1.2)
has_one_end p bound g last is (ends.Limit j) ends.Finished x y = absurd (none_ready g last y (x.1.0, x.1.1, x.1.2))
has_one_end p bound g last is (ends.Limit j) ends.Spent x y = (let e = y.0 in let l = x.0 in absurd (omega (arith, e, l)))
has_one_end p bound g last is (ends.Limit j) (ends.Halted u) x y = absurd (y.3 x.1.0 x.1.1 x.1.2)
has_one_end p bound g last is (ends.Limit j) (ends.Limit k) x y = tt
