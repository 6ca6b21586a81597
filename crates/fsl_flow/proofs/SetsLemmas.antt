-- The slots that a statement sets: they do not depend on how its expressions and assertions are read, and those of
-- several statements come one statement after the other.
use Rattle.std.proofs.Common.{◌≡◌, List, [], ◌∷◌, ◌++◌, map, refl, sym, ap, ◌∙◌, subst, ◌<◌, ◌≤◌, ℕ, ◌+◌, ◌==◌, ◌||◌, max, Bool, true, false, length, drop, get_or}
use Rattle.fsl_base.specs.declared.span.Span.{Span}
use Rattle.fsl_core.specs.declared.act.Act.{Act}
use Rattle.fsl_core.specs.declared.act.Stmt.{Stmt}
use Rattle.fsl_core.specs.declared.act.Act.TheOpen.{Act-F}
use Rattle.fsl_core.specs.declared.act.Act.TheFolds.{ind-Act, map-Act, fold-roll-Act, fold_out-Stmt}
use Rattle.fsl_core.specs.logic.Paths.{Meaning, Reading, act_step, stmt_step, stmt_of, all_sets}
use Rattle.fsl_flow.specs.Sets.{Slots, joined, sets_step, act_sets, stmt_sets, stmts_set}
use Rattle.fsl_flow.specs.Paths.{act_meaning, meanings}
use Rattle.std.specs.List.{list_any}
use Rattle.std.proofs.lemmas.List.{at_drop_more, at_drop_all}
use Rattle.std.proofs.lemmas.List.Folds.{list_any-append}
use Rattle.fsl_core.specs.declared.act.Act.TheVariants.{If, rolls-If}
use Rattle.fsl_core.specs.declared.expr.Cond.{Cond}
use Rattle.fsl_core.specs.logic.Slots.{past}

-- one level of a statement
pub stmt_layer : (r : Reading) (stmt : Stmt) → stmt_of r stmt ≡ act_meaning r stmt.act stmt.span
stmt_layer r stmt = fold_out-Stmt (Span → Meaning) Meaning (act_step r) stmt_step stmt

pub sets_layer : (stmt : Stmt) → stmt_sets stmt ≡ act_sets stmt.act
sets_layer stmt = fold_out-Stmt Slots Slots sets_step (λ s. s.act) stmt

all_joined : {Y : Type 0} (b : Y → Stmt) (g : Stmt → Meaning) (h : Stmt → Slots) → ((y : Y) → (g (b y)).sets ≡ h (b y))
    → (ys : List Y) → all_sets (map g (map b ys)) ≡ joined (map h (map b ys))
all_joined b g h each [] = refl
all_joined b g h each (y ∷ ys) = ap (λ (x : Slots). x ++ all_sets (map g (map b ys))) (each y) ∙ ap (λ (x : Slots). h (b y) ++ x) (all_joined b g h each ys)

-- one level of an act, whose children a and b map to acts and statements
layer : {X Y : Type 0} (a : X → Act) (b : Y → Stmt) (r : Reading) (at : Span) (f : Act → Span → Meaning) (g : Stmt → Meaning)
    (f2 : Act → Slots) (h : Stmt → Slots) → ((y : Y) → (g (b y)).sets ≡ h (b y)) → (l : Act-F X Y)
    → (act_step r (map-Act Act Stmt (Span → Meaning) Meaning f g (map-Act X Y Act Stmt a b l)) at).sets
    ≡ sets_step (map-Act Act Stmt Slots Slots f2 h (map-Act X Y Act Stmt a b l))
layer a b r at f g f2 h each (Act-F.If cond xs ys) =
    ap (λ (x : Slots). x ++ all_sets (map g (map b ys))) (all_joined b g h each xs) ∙ ap (λ (x : Slots). joined (map h (map b xs)) ++ x) (all_joined b g h each ys)
layer a b r at f g f2 h each (Act-F.While cond inv body) = all_joined b g h each body
layer a b r at f g f2 h each _ = refl

abbrev SetsSame : Act → Type 0
SetsSame act = (r : Reading) (at : Span) → (act_meaning r act at).sets ≡ act_sets act

stmt_same : (stmt : Stmt) → SetsSame stmt.act → (r : Reading) → (stmt_of r stmt).sets ≡ stmt_sets stmt
stmt_same stmt same r = ap (λ (m : Meaning). m.sets) (stmt_layer r stmt) ∙ same r stmt.span ∙ sym (sets_layer stmt)

act_same : (act : Act) → SetsSame act
act_same = ind-Act SetsSame (λ stmt. SetsSame stmt.act)
    (λ x y is r at.
    let one = subst (λ l. (act_step r (map-Act Act Stmt (Span → Meaning) Meaning (act_meaning r) (stmt_of r) l) at).sets
    ≡ sets_step (map-Act Act Stmt Slots Slots act_sets stmt_sets l)) is
    (layer (λ e. e.0) (λ e. e.0) r at (act_meaning r) (stmt_of r) act_sets stmt_sets (λ e. stmt_same e.0 e.1 r) y) in
    ap (λ (m : Span → Meaning). (m at).sets) (fold-roll-Act (Span → Meaning) Meaning (act_step r) stmt_step x)
    ∙ one ∙ sym (fold-roll-Act Slots Slots sets_step (λ s. s.act) x))
    (λ x y is. subst (λ l. SetsSame l.act) is y.act.1)

pub sets_same : (r : Reading) (stmt : Stmt) → (stmt_of r stmt).sets ≡ act_sets stmt.act
sets_same r stmt = ap (λ (m : Meaning). m.sets) (stmt_layer r stmt) ∙ act_same stmt.act r stmt.span

all_same_by : (r : Reading) (stmts : List Stmt) → all_sets (meanings r stmts) ≡ stmts_set stmts
all_same_by r [] = refl
all_same_by r (stmt ∷ stmts) =
    ap (λ (x : Slots). x ++ all_sets (meanings r stmts)) (stmt_same stmt (act_same stmt.act) r) ∙ ap (λ (x : Slots). stmt_sets stmt ++ x) (all_same_by r stmts)

pub all_same : (r : Reading) (stmts : List Stmt) → all_sets (meanings r stmts) ≡ stmts_set stmts
all_same r stmts = all_same_by r stmts

pub past_append : (declared : ℕ) (xs ys : List ℕ) → past declared (xs ++ ys) ≡ past (past declared xs) ys
past_append declared [] ys = refl
past_append declared (x ∷ xs) ys = past_append (max declared (x + 1)) xs ys

pub past_first : (declared : ℕ) (stmt : Stmt) (stmts : List Stmt)
    → past declared (stmts_set (stmt ∷ stmts)) ≡ past (past declared (act_sets stmt.act)) (stmts_set stmts)
past_first declared stmt stmts =
    past_append declared (stmt_sets stmt) (stmts_set stmts) ∙ ap (λ (x : Slots). past (past declared x) (stmts_set stmts)) (sets_layer stmt)

pub any_first : (number : ℕ) (stmt : Stmt) (stmts : List Stmt)
    → list_any (λ slot. slot == number) (stmts_set (stmt ∷ stmts))
    ≡ (list_any (λ slot. slot == number) (act_sets stmt.act) || list_any (λ slot. slot == number) (stmts_set stmts))
any_first number stmt stmts =
    list_any-append (λ slot. slot == number) (stmt_sets stmt) (stmts_set stmts)
    ∙ ap (λ (x : Slots). list_any (λ slot. slot == number) x || list_any (λ slot. slot == number) (stmts_set stmts)) (sets_layer stmt)

pub any_append : (number : ℕ) (xs ys : List ℕ)
    → list_any (λ slot. slot == number) (xs ++ ys) ≡ (list_any (λ slot. slot == number) xs || list_any (λ slot. slot == number) ys)
any_append number xs ys = list_any-append (λ slot. slot == number) xs ys

pub past_both : (declared m n : ℕ) (xs ys : List ℕ) → m ≡ past declared xs → n ≡ past m ys → n ≡ past declared (xs ++ ys)
past_both declared m n xs ys h k = k ∙ ap (λ (d : ℕ). past d ys) h ∙ sym (past_append declared xs ys)

pub if_sets : (act : Act) (cond : Cond) (a b : List Stmt) → act ≡ If cond a b → act_sets act ≡ stmts_set a ++ stmts_set b
if_sets act cond a b e =
    ap act_sets e ∙ ap act_sets (sym (rolls-If cond a b)) ∙ fold-roll-Act Slots Slots sets_step (λ s. s.act) (Act-F.If cond a b)

-- ---- loops over statements

pub past_on : (so_far n i : ℕ) (stmts : List Stmt) (stmt : Stmt) (whole : ℕ) → i < length stmts → stmt ≡ get_or stmts i stmt
    → n ≡ past so_far (act_sets stmt.act) → past so_far (stmts_set (drop i stmts)) ≡ whole → past n (stmts_set (drop (i + 1) stmts)) ≡ whole
past_on so_far n i stmts stmt whole below is e so =
    ap (λ (d : ℕ). past d (stmts_set (drop (i + 1) stmts))) e
    ∙ sym (past_first so_far stmt (drop (i + 1) stmts))
    ∙ ap (λ (s : Stmt). past so_far (stmts_set (s ∷ drop (i + 1) stmts))) is
    ∙ sym (at_drop_more (λ (l : List Stmt). past so_far (stmts_set l)) stmts i stmt below)
    ∙ so

pub past_end : (so_far i : ℕ) (stmts : List Stmt) (whole : ℕ) → length stmts ≤ i → past so_far (stmts_set (drop i stmts)) ≡ whole → so_far ≡ whole
past_end so_far i stmts whole h so = sym (at_drop_all (λ (l : List Stmt). past so_far (stmts_set l)) stmts i h) ∙ so

any_here : (number i : ℕ) (stmts : List Stmt) (stmt : Stmt) → i < length stmts → stmt ≡ get_or stmts i stmt
    → list_any (λ slot. slot == number) (stmts_set (drop i stmts))
    ≡ (list_any (λ slot. slot == number) (act_sets stmt.act) || list_any (λ slot. slot == number) (stmts_set (drop (i + 1) stmts)))
any_here number i stmts stmt below is =
    at_drop_more (λ (l : List Stmt). list_any (λ slot. slot == number) (stmts_set l)) stmts i stmt below
    ∙ ap (λ (s : Stmt). list_any (λ slot. slot == number) (stmts_set (s ∷ drop (i + 1) stmts))) (sym is)
    ∙ any_first number stmt (drop (i + 1) stmts)

pub any_skips : (number i : ℕ) (stmts : List Stmt) (stmt : Stmt) (whole : Bool) → i < length stmts → stmt ≡ get_or stmts i stmt
    → list_any (λ slot. slot == number) (act_sets stmt.act) ≡ false
    → list_any (λ slot. slot == number) (stmts_set (drop i stmts)) ≡ whole
    → list_any (λ slot. slot == number) (stmts_set (drop (i + 1) stmts)) ≡ whole
any_skips number i stmts stmt whole below is out so =
    ap (λ (b : Bool). b || list_any (λ slot. slot == number) (stmts_set (drop (i + 1) stmts))) (sym out)
    ∙ sym (any_here number i stmts stmt below is) ∙ so

pub any_found : (number i : ℕ) (stmts : List Stmt) (stmt : Stmt) (whole : Bool) → i < length stmts → stmt ≡ get_or stmts i stmt
    → list_any (λ slot. slot == number) (act_sets stmt.act) ≡ true
    → list_any (λ slot. slot == number) (stmts_set (drop i stmts)) ≡ whole → true ≡ whole
any_found number i stmts stmt whole below is inside so =
    ap (λ (b : Bool). b || list_any (λ slot. slot == number) (stmts_set (drop (i + 1) stmts))) (sym inside)
    ∙ sym (any_here number i stmts stmt below is) ∙ so

pub any_end : (number i : ℕ) (stmts : List Stmt) (whole : Bool) → length stmts ≤ i
    → list_any (λ slot. slot == number) (stmts_set (drop i stmts)) ≡ whole → false ≡ whole
any_end number i stmts whole h so = sym (at_drop_all (λ (l : List Stmt). list_any (λ slot. slot == number) (stmts_set l)) stmts i h) ∙ so
