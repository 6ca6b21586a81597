-- A table of names that lie in the file, as a list of names.
use Rattle.std.proofs.Common.{◌≡◌, ◌⊎◌, inl, inr, ℕ, Bool, true, false, true≢false, List, [], ◌∷◌, ◌++◌, Option, Some, None, Bor, map, cond, is_some, if◌then◌else◌, refl, ap, sym, ◌∙◌}
use Rattle.std.proofs.lemmas.Slice.Eq.{bytes_eq-Decides}
use Rattle.std.specs.Map.{lookup}
use Rattle.std.specs.Option.{option_copied}
use Rattle.std.specs.Str.{bytes_eq}
use Rattle.indexmap.specs.IndexMap.{IndexMap, insert_entry}
use Rattle.indexmap.proofs.CallerLemmas.{insert_entry-new}
use Rattle.fsl_types.specs.Names.{found, with_name}

-- the names of a table, without where they lie
abbrev pub in_sight : {V : Type 0} → List (Bor (List ℕ) × V) → List (List ℕ × V)
in_sight entries = map (λ entry. (entry.0.now, entry.1)) entries

pub lookup_in_sight : {V : Type 0} (test : List ℕ → Bool) (entries : List (Bor (List ℕ) × V)) →
    lookup (λ key. test key.now) entries ≡ lookup test (in_sight entries)
lookup_in_sight test [] = refl
lookup_in_sight test (e ∷ es) = ap (λ r. cond (test e.0.now) (Some e.1) r) (lookup_in_sight test es)

pub in_sight_append : {V : Type 0} (xs ys : List (Bor (List ℕ) × V)) → in_sight (xs ++ ys) ≡ in_sight xs ++ in_sight ys
in_sight_append [] ys = refl
in_sight_append (x ∷ xs) ys = ap (λ r. (x.0.now, x.1) ∷ r) (in_sight_append xs ys)

pub is_some_copied : {V : Type 0} (o : Option (Bor V)) → is_some o ≡ is_some (option_copied o)
is_some_copied None = refl
is_some_copied (Some v) = refl

none_from_not_some : {V : Type 0} (o : Option V) → is_some o ≡ false → o ≡ None
none_from_not_some None e = refl
none_from_not_some (Some v) e = absurd (true≢false e)

pub with_name_there : {V : Type 0} (name : List ℕ) (v : V) (entries : List (List ℕ × V)) → is_some (found name entries) ≡ true →
    entries ≡ with_name name v entries
with_name_there name v entries there = ap (λ b. if b then entries else entries ++ (name, v) ∷ []) (sym there)

pub with_name_new : {V : Type 0} (name : List ℕ) (v : V) (entries : List (List ℕ × V)) → is_some (found name entries) ≡ false →
    entries ++ (name, v) ∷ [] ≡ with_name name v entries
with_name_new name v entries absent = ap (λ b. if b then entries else entries ++ (name, v) ∷ []) (sym absent)

-- a name that isn't in the table is put behind the others
pub inserted_name : {V S : Type 0} (m : IndexMap (Bor (List ℕ)) V S) (key : Bor (List ℕ)) (v : V) (seen : List (List ℕ × V)) →
    in_sight m.entries ≡ seen → is_some (found key.now seen) ≡ false →
    in_sight (insert_entry (λ x y. bytes_eq x.now y.now) m.entries key v) ≡ with_name key.now v seen
inserted_name m key v seen same absent =
    let none : lookup (λ k. bytes_eq key.now k.now) m.entries ≡ None =
    none_from_not_some _ (ap is_some (lookup_in_sight (bytes_eq key.now) m.entries ∙ ap (λ es. found key.now es) same) ∙ absent) in
    ap in_sight (insert_entry-new (λ x y. bytes_eq x.now y.now) m key v none)
    ∙ in_sight_append m.entries ((key, v) ∷ []) ∙ ap (λ es. es ++ (key.now, v) ∷ []) same ∙ with_name_new key.now v seen absent

found_last : {V : Type 0} (b : Bool) (v s : V) → cond b (Some v) None ≡ Some s → (b ≡ true) × (v ≡ s)
found_last true v s is = (refl, cc)
found_last false v s is = absurd cc

found_first : {R V : Type 0} (b : Bool) (v s : V) (rest others : Option V) → (rest ≡ Some s → (others ≡ Some s) ⊎ R)
    → cond b (Some v) rest ≡ Some s → (cond b (Some v) others ≡ Some s) ⊎ R
found_first true v s rest others behind is = inl is
found_first false v s rest others behind is = behind is

found_added : {V : Type 0} (test : List ℕ → Bool) (entries : List (List ℕ × V)) (key : List ℕ) (v s : V) → lookup test (entries ++ (key, v) ∷ []) ≡ Some s
    → (lookup test entries ≡ Some s) ⊎ ((test key ≡ true) × (v ≡ s))
found_added test [] key v s is = inr (found_last (test key) v s is)
found_added test (e ∷ es) key v s is = found_first (test e.0) e.1 s (lookup test (es ++ (key, v) ∷ [])) (lookup test es) (found_added test es key v s) is

found_if : {V : Type 0} (b : Bool) (test : List ℕ → Bool) (entries : List (List ℕ × V)) (key : List ℕ) (v s : V)
    → lookup test (if b then entries else entries ++ (key, v) ∷ []) ≡ Some s → (lookup test entries ≡ Some s) ⊎ ((test key ≡ true) × (v ≡ s))
found_if true test entries key v s is = inl is
found_if false test entries key v s is = found_added test entries key v s is

-- what is found among names with one more was there before, or is the new one
pub found_either : {V : Type 0} (name key : List ℕ) (v s : V) (entries : List (List ℕ × V)) → found name (with_name key v entries) ≡ Some s
    → (found name entries ≡ Some s) ⊎ ((bytes_eq name key ≡ true) × (v ≡ s))
found_either name key v s entries is = found_if (is_some (found key entries)) (bytes_eq name) entries key v s is

found_there : {V : Type 0} (b : Bool) (w v : V) (rest others : Option V) → (rest ≡ Some v → others ≡ Some v) → cond b (Some w) rest ≡ Some v → cond b (Some w) others ≡ Some v
found_there true w v rest others on is = is
found_there false w v rest others on is = on is

found_before : {V : Type 0} (test : List ℕ → Bool) (entries more : List (List ℕ × V)) (v : V) → lookup test entries ≡ Some v → lookup test (entries ++ more) ≡ Some v
found_before test [] more v is = absurd cc
found_before test (e ∷ es) more v is = found_there (test e.0) e.1 v (lookup test es) (lookup test (es ++ more)) (found_before test es more v) is

kept_if : {V : Type 0} (b : Bool) (test : List ℕ → Bool) (entries : List (List ℕ × V)) (key : List ℕ) (v s : V) → lookup test entries ≡ Some s
    → lookup test (if b then entries else entries ++ (key, v) ∷ []) ≡ Some s
kept_if true test entries key v s is = is
kept_if false test entries key v s is = found_before test entries ((key, v) ∷ []) s is

-- what is found is found behind one name more, too
pub found_kept : {V : Type 0} (name key : List ℕ) (v s : V) (entries : List (List ℕ × V)) → found name entries ≡ Some s → found name (with_name key v entries) ≡ Some s
found_kept name key v s entries is = kept_if (is_some (found key entries)) (bytes_eq name) entries key v s is

pub found_on : {V : Type 0} (name : List ℕ) (entries more : List (List ℕ × V)) (v : V) → found name entries ≡ Some v → found name (entries ++ more) ≡ Some v
found_on name entries more v is = found_before (bytes_eq name) entries more v is

last_if : {V : Type 0} (b : Bool) (w v : V) (rest others : Option V) → cond b (Some w) rest ≡ None → (rest ≡ None → others ≡ Some v) → cond b (Some w) others ≡ Some v
last_if true w v rest others none on = absurd cc
last_if false w v rest others none on = on none

found_last_one : {V : Type 0} (test : List ℕ → Bool) (entries : List (List ℕ × V)) (key : List ℕ) (v : V) → lookup test entries ≡ None → test key ≡ true
    → lookup test (entries ++ (key, v) ∷ []) ≡ Some v
found_last_one test [] key v none is = ap (λ (b : Bool). cond b (Some v) None) is
found_last_one test (e ∷ es) key v none is = last_if (test e.0) e.1 v (lookup test es) (lookup test (es ++ (key, v) ∷ [])) none (λ rest. found_last_one test es key v rest is)

-- a name that is new is found
pub found_new : {V : Type 0} (name key : List ℕ) (v : V) (entries : List (List ℕ × V)) → is_some (found key entries) ≡ false → bytes_eq name key ≡ true
    → found name (with_name key v entries) ≡ Some v
found_new name key v entries new same =
    let is : name ≡ key = (bytes_eq-Decides name key).0 same in
    let none : found name entries ≡ None = ap (λ (n : List ℕ). found n entries) is ∙ none_from_not_some (found key entries) new in
    ap (λ (b : Bool). lookup (bytes_eq name) (if b then entries else entries ++ (key, v) ∷ [])) new ∙ found_last_one (bytes_eq name) entries key v none same
