-- Assertions that are produced or consumed one after the other.
use Rattle.std.proofs.Common.{◌≡◌, ℕ, suc, ◌+◌, ◌<◌, Bool, true, false, List, [], ◌∷◌, ◌++◌, length, get_or, drop, map, refl, sym, ap, ◌∙◌, add-one, drop-cons, append-nil}
use Rattle.fsl_asrt.specs.Branch.{bounds, decided as decided_list}
use Rattle.fsl_asrt.specs.declared.branch.Bound.{Bound}
use Rattle.fsl_asrt.specs.declared.branch.Decided.{Decided}
use Rattle.fsl_asrt.specs.declared.walk.Way.{Way}
use Rattle.fsl_asrt.specs.declared.walk.Way.TheVariants.{Produce, Consume}
use Rattle.fsl_asrt.specs.Walk.{by_way, all_by}
use Rattle.fsl_asrt.proofs.Laws.{followed_equal, followed_give, followed_twice}
use Rattle.fsl_core.specs.declared.assertion.Asrt.{Asrt}
use Rattle.fsl_core.specs.declared.assertion.Asrt.TheFolds.{fold-roll-Asrt}
use Rattle.fsl_core.specs.declared.assertion.Asrt.TheOpen.{Asrt-F}
use Rattle.fsl_core.specs.declared.assertion.Asrt.TheVariants.{Choice, rolls-Choice}
use Rattle.fsl_core.specs.declared.expr.Cond.{Cond}
use Rattle.fsl_core.specs.declared.mode.Rung.{Rung}
use Rattle.fsl_core.specs.declared.mode.Rung.TheVariants.{Up, Down}
use Rattle.fsl_core.specs.declared.verdict.Mood.{Mood}
use Rattle.fsl_core.specs.logic.States.{Env, State, goes, Branches, Rule, followed}
use Rattle.fsl_core.specs.logic.Terms.{expr_of}
use Rattle.fsl_core.specs.logic.Deciding.{Condition, cond_of, decided}
use Rattle.fsl_core.specs.logic.Producing.{chosen}
use Rattle.fsl_core.specs.logic.Assertions.{Assertion, choice, up, down, asrt_step, asrt_of}

-- the first of several, on each branch, and then the others
pub one_more : (way : Way) (a : Assertion) (rest : List Assertion) (rung : Rung) (bs : Branches Env)
    → followed (followed bs (by_way way a rung)) (all_by way rest rung) ≡ followed bs (all_by way (a ∷ rest) rung)
one_more Produce a rest rung bs = followed_twice bs (a.produce rung) (all_by Produce rest rung)
one_more (Consume mood) a rest rung bs = followed_twice bs (a.consume mood rung) (all_by (Consume mood) rest rung)

pub no_more : (way : Way) (rung : Rung) (bs : Branches Env) → followed bs (all_by way [] rung) ≡ bs
no_more Produce rung bs = followed_give bs
no_more (Consume mood) rung bs = followed_give bs

-- the one branch at the start
pub at_first : (way : Way) (parts : List Assertion) (rung : Rung) (env : Env) (s : State)
    → followed (goes env s ∷ []) (all_by way parts rung) ≡ all_by way parts rung env s
at_first way parts rung env s = append-nil (all_by way parts rung env s)

arm_produced : (a b : Assertion) (holds : Bool) (rung : Rung) (env : Env) (t : State)
    → chosen a.produce b.produce holds rung env t ≡ (chosen a b holds).produce rung env t
arm_produced a b true rung env t = refl
arm_produced a b false rung env t = refl

arm_consumed : (mood : Mood) (a b : Assertion) (holds : Bool) (rung : Rung) (env : Env) (t : State)
    → chosen a.consume b.consume holds mood rung env t ≡ (chosen a b holds).consume mood rung env t
arm_consumed mood a b true rung env t = refl
arm_consumed mood a b false rung env t = refl

-- a choice, by its decision
pub by_choice : (way : Way) (cond : Condition) (a b : Assertion) (rung : Rung) (env : Env) (s : State)
    → by_way way (choice cond a b) rung env s ≡ followed (decided cond env s) (λ holds. by_way way (chosen a b holds) rung env)
by_choice Produce cond a b rung env s = followed_equal (decided cond env s) _ _ (λ holds t. arm_produced a b holds rung env t)
by_choice (Consume mood) cond a b rung env s = followed_equal (decided cond env s) _ _ (λ holds t. arm_consumed mood a b holds rung env t)

-- inside a modality the rung is the modality's own
pub by_up : (way : Way) (a : Assertion) (rung : Rung) (env : Env) (s : State) → by_way way (up a) rung env s ≡ by_way way a Up env s
by_up Produce a rung env s = refl
by_up (Consume mood) a rung env s = refl

pub by_down : (way : Way) (a : Assertion) (rung : Rung) (env : Env) (s : State) → by_way way (down a) rung env s ≡ by_way way a Down env s
by_down Produce a rung env s = refl
by_down (Consume mood) a rung env s = refl

-- one level of a choice
pub level_of_choice : (cond : Cond) (a b : Asrt) → asrt_of (Choice cond a b) ≡ choice (cond_of expr_of cond) (asrt_of a) (asrt_of b)
level_of_choice cond a b = ap asrt_of (sym (rolls-Choice cond a b)) ∙ fold-roll-Asrt Assertion (asrt_step expr_of) (Asrt-F.Choice cond a b)

-- ---- the loops

-- no branch of a choice is done yet
pub first_choice : (way : Way) (cond : Condition) (a b x : Assertion) (rung : Rung) (env : Env) (s : State)
    (out : List Bound) (rest ds : List Decided) → out ≡ [] → rest ≡ ds → decided_list ds ≡ decided cond env s → x ≡ choice cond a b
    → bounds out ++ followed (decided_list rest) (λ holds. by_way way (chosen a b holds) rung env) ≡ by_way way x rung env s
first_choice way cond a b x rung env s out rest ds h i k l =
    let arm : Bool → Rule Env = λ holds. by_way way (chosen a b holds) rung env in
    ap (λ (o : List Bound). bounds o ++ followed (decided_list rest) arm) h
    ∙ ap (λ (r : List Decided). followed (decided_list r) arm) i
    ∙ ap (λ (bs : Branches Bool). followed bs arm) k
    ∙ sym (by_choice way cond a b rung env s)
    ∙ ap (λ (y : Assertion). by_way way y rung env s) (sym l)

-- the item of a list at a place, and those behind it
pub next_item : {X : Type 0} (xs : List X) (i : ℕ) (x : X) → i < length xs → x ≡ get_or xs i x → drop i xs ≡ x ∷ drop (i + 1) xs
next_item xs i x h e = rw add-one (drop-cons xs i x h ∙ ap (λ y. y ∷ drop (suc i) xs) (sym e))

-- one more part is done
pub part_done : (way : Way) (rung : Rung) (xs ys : List Asrt) (x : Asrt) (bs cs whole : Branches Env) → xs ≡ x ∷ ys
    → cs ≡ followed bs (by_way way (asrt_of x) rung) → followed bs (all_by way (map asrt_of xs) rung) ≡ whole
    → followed cs (all_by way (map asrt_of ys) rung) ≡ whole
part_done way rung xs ys x bs cs whole e h k =
    ap (λ (ds : Branches Env). followed ds (all_by way (map asrt_of ys) rung)) h
    ∙ one_more way (asrt_of x) (map asrt_of ys) rung bs
    ∙ ap (λ (zs : List Asrt). followed bs (all_by way (map asrt_of zs) rung)) (sym e) ∙ k

-- all parts are done
pub parts_done : (way : Way) (rung : Rung) (xs : List Asrt) (bs whole : Branches Env) → xs ≡ []
    → followed bs (all_by way (map asrt_of xs) rung) ≡ whole → bs ≡ whole
parts_done way rung xs bs whole e k =
    sym (no_more way rung bs) ∙ ap (λ (zs : List Asrt). followed bs (all_by way (map asrt_of zs) rung)) (sym e) ∙ k
