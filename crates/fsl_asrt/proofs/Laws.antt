-- Laws of rules that are followed, of terms that they read first, and of lists of branches that grow. They are no file's
-- of `src/` alone.
use Rattle.std.proofs.Common.{◌≡◌, ℕ, List, [], ◌∷◌, ◌++◌, map, get_or, Option, Some, None, refl, sym, ap, ◌∙◌, append_assoc, append-nil}
use Rattle.std.proofs.lemmas.List.{map-append}
use Rattle.fsl_core.specs.declared.verdict.Kind.{Kind}
use Rattle.fsl_core.specs.declared.verdict.Kind.TheVariants.{Term}
use Rattle.fsl_core.specs.logic.States.{Env, State, goes, fails, Branches, Rule, Action, followed, ◌>>=◌, ◌>>◌, give, demand_some, here}
use Rattle.fsl_core.specs.logic.Terms.{Expression, term}
use Rattle.fsl_core.specs.logic.Joining.{nought}
use Rattle.fsl_core.specs.logic.Producing.{bank_of}
use Rattle.fsl_lin.specs.Combination.{Combination}

pub followed_append : {X Y : Type 0} (bs cs : Branches X) (rule : X → Rule Y) → followed (bs ++ cs) rule ≡ followed bs rule ++ followed cs rule
followed_append [] cs rule = refl
followed_append (goes x s ∷ bs) cs rule =
    ap (λ r. rule x s ++ r) (followed_append bs cs rule) ∙ sym (append_assoc (rule x s) (followed bs rule) (followed cs rule))
followed_append (fails kind ∷ bs) cs rule = ap (λ r. fails kind ∷ r) (followed_append bs cs rule)

pub followed_give : {X : Type 0} (bs : Branches X) → followed bs give ≡ bs
followed_give [] = refl
followed_give (goes x s ∷ bs) = ap (λ r. goes x s ∷ r) (followed_give bs)
followed_give (fails kind ∷ bs) = ap (λ r. fails kind ∷ r) (followed_give bs)

pub followed_twice : {X Y Z : Type 0} (bs : Branches X) (f : X → Rule Y) (g : Y → Rule Z) → followed (followed bs f) g ≡ followed bs (λ x. f x >>= g)
followed_twice [] f g = refl
followed_twice (goes x s ∷ bs) f g = followed_append (f x s) (followed bs f) g ∙ ap (λ r. followed (f x s) g ++ r) (followed_twice bs f g)
followed_twice (fails kind ∷ bs) f g = ap (λ r. fails kind ∷ r) (followed_twice bs f g)

pub followed_equal : {X Y : Type 0} (bs : Branches X) (f g : X → Rule Y) → ((x : X) (t : State) → f x t ≡ g x t)
    → followed bs f ≡ followed bs g
followed_equal [] f g h = refl
followed_equal (goes x t ∷ bs) f g h = ap (λ r. r ++ followed bs f) (h x t) ∙ ap (λ r. g x t ++ r) (followed_equal bs f g h)
followed_equal (fails kind ∷ bs) f g h = ap (λ r. fails kind ∷ r) (followed_equal bs f g h)

-- a demand that is met
pub got : {X Y : Type 0} (kind : Kind) (o : Option X) (x : X) (s : State) (f : X → Rule Y) → o ≡ Some x
    → followed (demand_some kind o s) f ≡ f x s
got kind o x s f h = rw h (append-nil (f x s))

-- one that isn't
pub lacked : {X Y : Type 0} (kind : Kind) (o : Option X) (s : State) (f : X → Rule Y) → o ≡ None
    → followed (demand_some kind o s) f ≡ fails kind ∷ []
lacked kind o s f h = rw h refl

-- a rule over the variables as they are
pub from_here : {Y : Type 0} (f : Env → Rule Y) (s : State) → (here >>= f) s ≡ f s.env s
from_here f s = append-nil (f s.env s)

-- one branch, and what follows
pub then_goes : {X Y : Type 0} (bs : Branches X) (x : X) (t : State) (f : X → Rule Y) → goes x t ∷ [] ≡ bs → followed bs f ≡ f x t
then_goes bs x t f h = rw (← h) (append-nil (f x t))

pub then_infeasible : {X Y : Type 0} (bs : Branches X) (f : X → Rule Y) → [] ≡ bs → followed bs f ≡ []
then_infeasible bs f h = rw (← h) refl

pub then_fails : {X Y : Type 0} (bs : Branches X) (f : X → Rule Y) (kind : Kind) → fails kind ∷ [] ≡ bs → followed bs f ≡ fails kind ∷ []
then_fails bs f kind h = rw (← h) refl

-- ---- terms

-- an expression that was read over the variables as they are
pub has_term : (e : Expression) (s : State) (env : Env) (o : Option Combination) (t : Combination) → env ≡ s.env → o ≡ e.term s.facts env
    → o ≡ Some t → e.term s.facts s.env ≡ Some t
has_term e s env o t same is some = ap (λ (v : Env). e.term s.facts v) (sym same) ∙ sym is ∙ some

-- a term over the variables as they are, and what follows
pub with_term : {Y : Type 0} (e : Expression) (after : Combination → Rule Y) (s : State) (t : Combination) → e.term s.facts s.env ≡ Some t
    → (here >>= (λ env. term e env >>= after)) s ≡ after t s
with_term e after s t h = from_here (λ env. term e env >>= after) s ∙ got Term (e.term s.facts s.env) t s after h

pub without_term : {Y : Type 0} (e : Expression) (after : Combination → Rule Y) (s : State) → e.term s.facts s.env ≡ None
    → (here >>= (λ env. term e env >>= after)) s ≡ fails Term ∷ []
without_term e after s h = from_here (λ env. term e env >>= after) s ∙ lacked Term (e.term s.facts s.env) s after h

-- a number of a bank, read, and what follows
pub of_bank : (n : Expression) (after : Combination → Combination → Action) (bank : ℕ) (env : Env) (s : State) (o : Option Combination) (g k : Combination)
    → get_or env bank nought ≡ g → o ≡ n.term s.facts env → o ≡ Some k
    → followed (after g k s) (λ _. give env) ≡ (term n env >>= (λ t. after (bank_of bank env) t >> give env)) s
of_bank n after bank env s o g k h l m =
    ap (λ (x : Combination). followed (after x k s) (λ _. give env)) (sym h)
    ∙ sym (got Term (n.term s.facts env) k s (λ t. after (bank_of bank env) t >> give env) (sym l ∙ m))

-- ---- lists of branches that grow

pub more_in_place : {A B : Type 0} (f : A → B) (out more : List A) (x rest whole : List B) → map f more ≡ x
    → map f out ++ (x ++ rest) ≡ whole → map f (out ++ more) ++ rest ≡ whole
more_in_place {B = B} f out more x rest whole e h =
    ap (λ (r : List B). r ++ rest) (map-append f out more) ∙ append_assoc (map f out) (map f more) rest
    ∙ ap (λ (y : List B). map f out ++ (y ++ rest)) e ∙ h

pub one_in_place : {A B : Type 0} (f : A → B) (out : List A) (y : A) (rest whole : List B)
    → map f out ++ (f y ∷ rest) ≡ whole → map f (out ++ y ∷ []) ++ rest ≡ whole
one_in_place f out y rest whole h = more_in_place f out (y ∷ []) (f y ∷ []) rest whole refl h
