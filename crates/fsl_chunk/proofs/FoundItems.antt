-- What an item that was found says of the list: where it stands, how it reads, and the list with another item in its
-- place or without it. It is no file's of `src/` alone.
use Rattle.std.proofs.Common.{◌≡◌, ◌+◌, ◌<◌, List, [], ◌∷◌, ◌++◌, length, Option, Some, None, refl, sym, ap, ◌∙◌, arith, length-append}
use Rattle.std.specs.Prelude.{slice_get, slice_set, remove}
use Rattle.fsl_core.specs.logic.Chunks.{Found, found, first}

-- the list around the item
pub record Split {C X : Type 0} (reads : C → Option X) (cs : List C) (f : Found C X) : Type 0 where
  pub item : C
  pub whole : cs ≡ f.before ++ item ∷ f.behind
  pub is : reads item ≡ Some f.is

split_by : {C X : Type 0} (reads : C → Option X) (c : C) (cs : List C) (f : Found C X) (o : Option X) (later : Option (Found C X))
    → reads c ≡ o → ((g : Found C X) → later ≡ Some g → Split reads cs g) → found o c cs later ≡ Some f → Split reads (c ∷ cs) f
split_by reads c cs f (Some x) later h k e =
    let q : record { before = []; is = x; behind = cs } ≡ f = cc in
    rw (← q) (record { item = c; whole = refl; is = h })
split_by reads c cs f None None h k e = absurd cc
split_by reads c cs f None (Some g) h k e =
    let q : record { before = c ∷ g.before; is = g.is; behind = g.behind } ≡ f = cc in
    let s : Split reads cs g = k g refl in
    rw (← q) (record { item = s.item; whole = ap (λ xs. c ∷ xs) s.whole; is = s.is })

pub split : {C X : Type 0} (reads : C → Option X) (cs : List C) (f : Found C X) → first reads cs ≡ Some f → Split reads cs f
split reads [] f e = absurd cc
split reads (c ∷ cs) f e = split_by reads c cs f (reads c) (first reads cs) refl (λ g h. split reads cs g h) e

pub get_middle : {C : Type 0} (xs : List C) (y : C) (ys : List C) → slice_get (xs ++ y ∷ ys) (length xs) ≡ Some y
get_middle [] y ys = refl
get_middle (x ∷ xs) y ys = get_middle xs y ys

set_middle : {C : Type 0} (xs : List C) (y z : C) (ys : List C) → slice_set (xs ++ y ∷ ys) (length xs) z ≡ xs ++ z ∷ ys
set_middle [] y z ys = refl
set_middle (x ∷ xs) y z ys = ap (λ zs. x ∷ zs) (set_middle xs y z ys)

remove_middle : {C : Type 0} (xs : List C) (y : C) (ys : List C) → remove (xs ++ y ∷ ys) (length xs) ≡ xs ++ ys
remove_middle [] y ys = refl
remove_middle (x ∷ xs) y ys = ap (λ zs. x ∷ zs) (remove_middle xs y ys)

pub found_within : {C X : Type 0} (reads : C → Option X) (cs : List C) (f : Found C X) → first reads cs ≡ Some f → length f.before < length cs
found_within reads cs f e =
    let s : Split reads cs f = split reads cs f e in
    let l : length cs ≡ length f.before + length (s.item ∷ f.behind) = ap length s.whole ∙ length-append f.before (s.item ∷ f.behind) in
    omega (arith, l)

pub found_reads : {C X : Type 0} (reads : C → Option X) (cs : List C) (f : Found C X) (c : C) → first reads cs ≡ Some f
    → slice_get cs (length f.before) ≡ Some c → reads c ≡ Some f.is
found_reads reads cs f c e h =
    let s : Split reads cs f = split reads cs f e in
    let m : slice_get cs (length f.before) ≡ Some s.item = ap (λ xs. slice_get xs (length f.before)) s.whole ∙ get_middle f.before s.item f.behind in
    let i : s.item ≡ c = cc in
    ap reads (sym i) ∙ s.is

pub put_found : {C X : Type 0} (reads : C → Option X) (cs : List C) (f : Found C X) (c : C) → first reads cs ≡ Some f
    → slice_set cs (length f.before) c ≡ f.before ++ c ∷ f.behind
put_found reads cs f c e =
    let s : Split reads cs f = split reads cs f e in
    ap (λ xs. slice_set xs (length f.before) c) s.whole ∙ set_middle f.before s.item c f.behind

pub taken_found : {C X : Type 0} (reads : C → Option X) (cs : List C) (f : Found C X) → first reads cs ≡ Some f
    → remove cs (length f.before) ≡ f.before ++ f.behind
taken_found reads cs f e =
    let s : Split reads cs f = split reads cs f e in
    ap (λ xs. remove xs (length f.before)) s.whole ∙ remove_middle f.before s.item f.behind
