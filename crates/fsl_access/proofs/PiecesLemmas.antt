-- The parts of an invariant, one after the other.
use Rattle.std.proofs.Common.{arith, ◌≡◌, ◌≤◌, ◌<◌, ℕ, suc, ◌+◌, ◌-◌, List, [], ◌∷◌, ◌++◌, length, get_or, drop, map, slice_get, replicate, Option, Some, None, refl, sym, ap, ◌∙◌, append_assoc, append-nil, length-append}
use Rattle.std.specs.Option.{option_map}
use Rattle.std.proofs.Math.ListN.{drop_of_length-le}
use Rattle.std.proofs.lemmas.Option.{slice_get-map}
use Rattle.fsl_core.specs.declared.assertion.Asrt.{Asrt}
use Rattle.fsl_core.specs.declared.declaration.Inv.{Inv}
use Rattle.fsl_core.specs.declared.mode.Rung.{Rung}
use Rattle.fsl_core.specs.declared.verdict.Mood.TheVariants as mood
use Rattle.fsl_core.specs.Programs.{Program}
use Rattle.fsl_core.specs.logic.States.{Env, State, goes, Branches, Action, followed, ◌>>=◌, done}
use Rattle.fsl_core.specs.logic.Chunks.{Leave}
use Rattle.fsl_core.specs.logic.Joining.{nought}
use Rattle.fsl_core.specs.logic.Assertions.{asrt_of}
use Rattle.fsl_core.specs.logic.Locations.{setting_of, Invariant, Piece, padded, pieces_of, parts_at, part_at, consume_parts, produce_part}
use Rattle.fsl_lin.specs.Combination.{Combination}
use Rattle.fsl_asrt.proofs.Laws.{followed_twice, followed_equal, followed_give}
use Rattle.fsl_asrt.proofs.WalkLemmas.{next_item}
use Rattle.fsl_access.proofs.SettingLemmas.{invariant_at}
use Rattle.fsl_access.specs.Pieces.{piece_in, parts_in, piece_at, part_consumed}

-- ---- environments with zeros behind what is set

pub padded_full : (slots : ℕ) (env : Env) → slots ≤ length env → padded slots env ≡ env
padded_full slots env h =
    let e : slots - length env ≡ 0 = omega arith in
    ap (λ (n : ℕ). env ++ replicate n nought) e ∙ append-nil env

pub padded_more : (slots : ℕ) (env : Env) → length env < slots → padded slots (env ++ nought ∷ []) ≡ padded slots env
padded_more slots env h =
    let k : length (env ++ nought ∷ []) ≡ length env + 1 = length-append env (nought ∷ []) in
    let e : slots - length env ≡ suc (slots - (length env + 1)) = omega arith in
    append_assoc env (nought ∷ []) (replicate (slots - length (env ++ nought ∷ [])) nought)
    ∙ ap (λ (n : ℕ). env ++ (nought ∷ replicate (slots - n) nought)) k
    ∙ ap (λ (n : ℕ). env ++ replicate n nought) (sym e)

-- ---- the parts of an invariant of the program

pub parts_found : (p : Program) (l : Leave) (v : Combination) (inv : Inv) (env : Env) → Some inv ≡ slice_get p.invs l.inv
    → env ≡ padded inv.slots (l.args ++ v ∷ []) → parts_at (setting_of asrt_of p) l v ≡ parts_in env inv.parts
parts_found p l v inv env h e =
    ap (λ (o : Option Invariant). pieces_of o l.args v) (invariant_at p l.inv (Some inv) h)
    ∙ ap (λ (x : Env). parts_in x inv.parts) (sym e)

pub parts_lack : (p : Program) (l : Leave) (v : Combination) → None ≡ slice_get p.invs l.inv → parts_at (setting_of asrt_of p) l v ≡ []
parts_lack p l v h = ap (λ (o : Option Invariant). pieces_of o l.args v) (invariant_at p l.inv None h)

pub part_found : (p : Program) (l : Leave) (part : ℕ) (v : Combination) (inv : Inv) → Some inv ≡ slice_get p.invs l.inv
    → part_at (setting_of asrt_of p) l part v ≡ piece_at inv l.args part v
part_found p l part v inv h = ap (λ (xs : List Piece). slice_get xs part) (parts_found p l v inv (padded inv.slots (l.args ++ v ∷ [])) h refl)

pub part_lacks : (p : Program) (l : Leave) (part : ℕ) (v : Combination) → None ≡ slice_get p.invs l.inv → part_at (setting_of asrt_of p) l part v ≡ None
part_lacks p l part v h = ap (λ (xs : List Piece). slice_get xs part) (parts_lack p l v h)

pub piece_found : (inv : Inv) (args : List Combination) (part : ℕ) (v : Combination) (o : Option Asrt) → o ≡ slice_get inv.parts part
    → piece_at inv args part v ≡ option_map (λ a. piece_in (padded inv.slots (args ++ v ∷ [])) (asrt_of a)) o
piece_found inv args part v o h =
    let env : Env = padded inv.slots (args ++ v ∷ []) in
    slice_get-map (piece_in env) (map asrt_of inv.parts) part
    ∙ ap (option_map (piece_in env)) (slice_get-map asrt_of inv.parts part)
    ∙ twice env (slice_get inv.parts part)
    ∙ ap (option_map (λ a. piece_in env (asrt_of a))) (sym h)
  where
    twice : (env : Env) (x : Option Asrt) → option_map (piece_in env) (option_map asrt_of x) ≡ option_map (λ a. piece_in env (asrt_of a)) x
    twice env (Some a) = refl
    twice env None = refl

-- the part of a number is produced, if there is one
pub piece_produced : (rung : Rung) (inv : Inv) (args : List Combination) (part : ℕ) (v : Combination) (s : State) (a : Asrt) (env : Env) (bs : Branches Env)
    → Some a ≡ slice_get inv.parts part → env ≡ padded inv.slots (args ++ v ∷ []) → bs ≡ (asrt_of a).produce rung env s
    → followed bs (λ _. done) ≡ produce_part rung (piece_at inv args part v) s
piece_produced rung inv args part v s a env bs h e made =
    ap (λ (cs : Branches Env). followed cs (λ _. done)) (made ∙ ap (λ (x : Env). (asrt_of a).produce rung x s) e)
    ∙ ap (λ (o : Option Piece). produce_part rung o s) (sym (piece_found inv args part v (Some a) h))

pub nothing_produced : (rung : Rung) (inv : Inv) (args : List Combination) (part : ℕ) (v : Combination) (s : State) → None ≡ slice_get inv.parts part
    → goes tt s ∷ [] ≡ produce_part rung (piece_at inv args part v) s
nothing_produced rung inv args part v s h = ap (λ (o : Option Piece). produce_part rung o s) (sym (piece_found inv args part v None h))

-- ---- parts that are consumed

-- a rule that drops what was given, and then another one
pub dropped : {X : Type 0} (bs : Branches X) (after : Action) → followed (followed bs (λ _. done)) (λ _. after) ≡ followed bs (λ _. after)
dropped bs after =
    followed_twice bs (λ _. done) (λ _. after) ∙ followed_equal bs (λ _. done >>= (λ _. after)) (λ _. after) (λ x t. append-nil (after t))

parts_on : (rung : Rung) (env : Env) (a : Asrt) (rest : List Asrt) (bs cs : Branches (Unit {0})) → cs ≡ followed bs (λ _. part_consumed rung env (asrt_of a))
    → followed cs (λ _. consume_parts rung (parts_in env rest)) ≡ followed bs (λ _. consume_parts rung (parts_in env (a ∷ rest)))
parts_on rung env a rest bs cs h =
    let after : Action = consume_parts rung (parts_in env rest) in
    ap (λ (ds : Branches (Unit {0})). followed ds (λ _. after)) h
    ∙ followed_twice bs (λ _. part_consumed rung env (asrt_of a)) (λ _. after)
    ∙ followed_equal bs (λ _. part_consumed rung env (asrt_of a) >>= (λ _. after)) (λ _. consume_parts rung (parts_in env (a ∷ rest)))
    (λ x t. dropped ((asrt_of a).consume mood.Cond rung env t) after)

pub parts_first : (rung : Rung) (env : Env) (parts : List Asrt) (s : State) (bs : Branches (Unit {0})) → bs ≡ goes tt s ∷ []
    → followed bs (λ _. consume_parts rung (parts_in env parts)) ≡ consume_parts rung (parts_in env parts) s
parts_first rung env parts s bs h =
    ap (λ (ds : Branches (Unit {0})). followed ds (λ _. consume_parts rung (parts_in env parts))) h ∙ append-nil (consume_parts rung (parts_in env parts) s)

pub parts_more : (rung : Rung) (env : Env) (i : ℕ) (parts : List Asrt) (a : Asrt) (bs cs whole : Branches (Unit {0})) → i < length parts → a ≡ get_or parts i a
    → cs ≡ followed bs (λ _. part_consumed rung env (asrt_of a)) → followed bs (λ _. consume_parts rung (parts_in env (drop i parts))) ≡ whole
    → followed cs (λ _. consume_parts rung (parts_in env (drop (i + 1) parts))) ≡ whole
parts_more rung env i parts a bs cs whole below is h so =
    parts_on rung env a (drop (i + 1) parts) bs cs h
    ∙ ap (λ (xs : List Asrt). followed bs (λ _. consume_parts rung (parts_in env xs))) (sym (next_item parts i a below is)) ∙ so

pub parts_done : (rung : Rung) (env : Env) (i : ℕ) (parts : List Asrt) (bs whole : Branches (Unit {0})) → length parts ≤ i
    → followed bs (λ _. consume_parts rung (parts_in env (drop i parts))) ≡ whole → bs ≡ whole
parts_done rung env i parts bs whole past so =
    sym (followed_give bs) ∙ ap (λ (xs : List Asrt). followed bs (λ _. consume_parts rung (parts_in env xs))) (sym (drop_of_length-le parts past)) ∙ so
