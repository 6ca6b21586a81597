-- What a message and the thread that reads it say is told to each other: each share of a cell says the value that they
-- say together.
use Rattle.std.proofs.Common.{◌≡◌, ℕ, ◌+◌, ◌≤◌, Bool, true, false, if◌then◌else◌, List, [], ◌∷◌, ◌++◌, Option, Some, None, ℤ, pos, negsuc, refl, sym, ap, subst, ◌∙◌, arith}
use Rattle.fsl_core.specs.declared.mode.Rung.{Rung}
use Rattle.fsl_core.specs.declared.mode.Rung.TheVariants.{Plain, Up, Down, Msg}
use Rattle.fsl_meaning.specs.Heaps.{Key, Key as key, Heap, Holds, Claim, Claim as claim, Ground, Knows, Needs, Agrees}
use Rattle.fsl_kept.specs.Changes.{without}
use Rattle.fsl_updated.specs.Grounds.{of_message}
use Rattle.fsl_graph.specs.declared.graph.Graph.{Graph}
use Rattle.fsl_graph.specs.Positions.{Holder}
use Rattle.fsl_own.specs.Owning.{Resource, Resource as resource, Known, limit}
use Rattle.fsl_own.specs.Atoms.{Atom, Points, Init, Rel, Acq, RmwAcq, Tok, Auth, asked, demand, Says, IsRight, AreRight}
use Rattle.fsl_good.specs.Pieces.{Level, AtPlain, AtUp, AtDown, same_level, holder_of, Piece, placed, all_placed, asked_at, demand_at, RightPieces, Told, AllSay, IsPossible}
use Rattle.fsl_good.proofs.Pieces.{placed_cells, all_say}
use Rattle.fsl_held.specs.Heaps.{heap_of, truth_of, ground_of, or_else, or_this, value_by, value_in, out_by, out_in, count_by, count_in, tokens_at, bank_in, says, knows_in, Kept}
use Rattle.fsl_held.specs.Parts.{atoms_of}
use Rattle.fsl_held.proofs.Cuts.{Values, size, sized}
use Rattle.fsl_held.proofs.Given.{EachOf, says_points, AreKnown, values_known, atoms_placed, held_says}
use Rattle.fsl_held.proofs.Filled.{Tells, told, value_sized, atoms_demand}
use Rattle.fsl_held.proofs.Fronts.{front_is_kept}
use Rattle.fsl_walk.proofs.Agreeing.{AgreesAt, agrees_at, agrees_by, at_then}
use Rattle.fsl_walk.proofs.Rounds.{right_within}
use Rattle.fsl_walk.proofs.Placing.{say_more, knows_placed}
use Rattle.fsl_walk.proofs.Meeting.{Meets}

-- ---- each share says its value

abbrev pub filled : Values → List Piece → List Piece
filled f [] = []
filled f (x ∷ xs) = record { level = x.level; atom = sized f x.atom (size x.atom) } ∷ filled f xs

filled_more : (f : Values) (xs ys : List Piece) → filled f (xs ++ ys) ≡ filled f xs ++ filled f ys
filled_more f [] ys = refl
filled_more f (x ∷ xs) ys = ap (λ (zs : List Piece). record { level = x.level; atom = sized f x.atom (size x.atom) } ∷ zs) (filled_more f xs ys)

-- ---- they own the same

asked_same : (f : Values) (x : Atom) (r : Resource) → asked (sized f x (size x)) r ≡ asked x r
asked_same f (Points c n v) r = refl
asked_same f (Init l) r = refl
asked_same f (Rel l i xs) r = refl
asked_same f (Acq l i xs p o) r = refl
asked_same f (RmwAcq l i xs) r = refl
asked_same f (Tok b n) r = refl
asked_same f (Auth b n) r = refl

line_plus : (a b c d : ℕ) → a ≡ b → c ≡ d → a + c ≡ b + d
line_plus a b c d p q = omega arith

filled_demand : (f : Values) (a : Level) (xs : List Piece) (r : Resource) → demand_at a (filled f xs) r ≡ demand_at a xs r
filled_demand f a [] r = refl
filled_demand f a (x ∷ xs) r =
    line_plus (if same_level x.level a then asked (sized f x.atom (size x.atom)) r else 0) (asked_at a x r) (demand_at a (filled f xs) r) (demand_at a xs r)
    (ap (λ (n : ℕ). if same_level x.level a then n else 0) (asked_same f x.atom r)) (filled_demand f a xs r)

filled_atoms : (f : Values) (xs : List Piece) (r : Resource) → demand (atoms_of (filled f xs)) r ≡ demand (atoms_of xs) r
filled_atoms f [] r = refl
filled_atoms f (x ∷ xs) r =
    line_plus (asked (sized f x.atom (size x.atom)) r) (asked x.atom r) (demand (atoms_of (filled f xs)) r) (demand (atoms_of xs) r) (asked_same f x.atom r) (filled_atoms f xs r)

pub filled_heap : (f : Values) (xs : List Piece) (k : Key) → heap_of (filled f xs) k ≡ heap_of xs k
filled_heap f xs (key.Cell Plain l) = filled_demand f AtPlain xs (resource.Cell l)
filled_heap f xs (key.Cell Up l) = filled_demand f AtUp xs (resource.Cell l)
filled_heap f xs (key.Cell Down l) = filled_demand f AtDown xs (resource.Cell l)
filled_heap f xs (key.Cell Msg l) = refl
filled_heap f xs (key.Permission l p) = filled_demand f AtPlain xs (resource.Permission l p)
filled_heap f xs (key.Tokens (pos b)) = filled_demand f AtPlain xs (resource.Tokens b)
filled_heap f xs (key.Tokens (negsuc b)) = refl
filled_heap f xs (key.Bank (pos b)) = filled_demand f AtPlain xs (resource.Bank b)
filled_heap f xs (key.Bank (negsuc b)) = refl

-- ---- they say the same, but for values

says_same : (f : Values) (a : Level) (x : Atom) (c : Claim) → says a (sized f x (size x)) c ≡ says a x c
says_same f a (Points l n v) c = refl
says_same f a (Init l) c = refl
says_same f a (Rel l i xs) c = refl
says_same f a (Acq l i xs p o) c = refl
says_same f a (RmwAcq l i xs) c = refl
says_same f a (Tok b n) c = refl
says_same f a (Auth b n) c = refl

knows_same : (f : Values) (xs : List Piece) (c : Claim) → knows_in (filled f xs) c ≡ knows_in xs c
knows_same f [] c = refl
knows_same f (x ∷ xs) c =
    ap (λ (b : Bool). if b then true else knows_in (filled f xs) c) (says_same f x.level x.atom c)
    ∙ ap (λ (b : Bool). if says x.level x.atom c then true else b) (knows_same f xs c)

out_same_by : (f : Values) (x : Atom) (l : ℤ) (p : ℕ) → out_by (sized f x (size x)) l p ≡ out_by x l p
out_same_by f (Points c n v) l p = refl
out_same_by f (Init c) l p = refl
out_same_by f (Rel c i xs) l p = refl
out_same_by f (Acq c i xs q o) l p = refl
out_same_by f (RmwAcq c i xs) l p = refl
out_same_by f (Tok b n) l p = refl
out_same_by f (Auth b n) l p = refl

out_same : (f : Values) (xs : List Piece) (l : ℤ) (p : ℕ) → out_in (filled f xs) l p ≡ out_in xs l p
out_same f [] l p = refl
out_same f (x ∷ xs) l p =
    ap (λ (o : Option (List ℤ)). or_else o (out_in (filled f xs) l p)) (out_same_by f x.atom l p) ∙ ap (λ (o : Option (List ℤ)). or_else (out_by x.atom l p) o) (out_same f xs l p)

count_same_by : (f : Values) (x : Atom) (b : ℕ) → count_by (sized f x (size x)) b ≡ count_by x b
count_same_by f (Points c n v) b = refl
count_same_by f (Init c) b = refl
count_same_by f (Rel c i xs) b = refl
count_same_by f (Acq c i xs q o) b = refl
count_same_by f (RmwAcq c i xs) b = refl
count_same_by f (Tok c n) b = refl
count_same_by f (Auth c n) b = refl

count_same : (f : Values) (xs : List Piece) (b : ℕ) → count_in (filled f xs) b ≡ count_in xs b
count_same f [] b = refl
count_same f (x ∷ xs) b =
    ap (λ (o : Option ℕ). or_else o (count_in (filled f xs) b)) (count_same_by f x.atom b) ∙ ap (λ (o : Option ℕ). or_else (count_by x.atom b) o) (count_same f xs b)

bank_same : (f : Values) (xs : List Piece) (b : ℤ) → bank_in (filled f xs) b ≡ bank_in xs b
bank_same f xs (negsuc b) = refl
bank_same f xs (pos b) =
    ap (λ (o : Option ℕ). pos (or_this o (tokens_at (filled f xs) (pos b)))) (count_same f xs b)
    ∙ ap (λ (n : ℕ). pos (or_this (count_in xs b) n)) (filled_demand f AtPlain xs (resource.Tokens b))

-- ---- values

each_sized : (f : Values) (l x : ℤ) → f l ≡ Some x → (xs : List Piece) → EachOf (Tells (λ y. value_by y l) (resource.Cell l) x) (filled f xs)
each_sized f l x e [] = tt
each_sized f l x e (y ∷ ys) = (value_sized f l x e y.level y.atom (size y.atom), each_sized f l x e ys)

-- who has a share says the value
filled_value : (f : Values) (a : Level) (xs : List Piece) (l x : ℤ) → f l ≡ Some x → 1 ≤ demand_at a xs (resource.Cell l) → value_in (filled f xs) l ≡ Some x
filled_value f a xs l x e some =
    told (λ y. value_by y l) (λ zs. value_in zs l) (λ z zs. refl) (resource.Cell l) x a (filled f xs) (each_sized f l x e xs) (subst (λ (n : ℕ). 1 ≤ n) (sym (filled_demand f a xs (resource.Cell l))) some)

value_at : (f : Values) (xs : List Piece) (r : Rung) (l x : ℤ) → f l ≡ Some x → 1 ≤ heap_of xs (key.Cell r l) → value_in (filled f xs) l ≡ Some x
value_at f xs Plain l x e some = filled_value f AtPlain xs l x e some
value_at f xs Up l x e some = filled_value f AtUp xs l x e some
value_at f xs Down l x e some = filled_value f AtDown xs l x e some
value_at f xs Msg l x e some = absurd (let z : 1 ≤ 0 = some in omega (arith, z))

-- ---- they are right

sized_says : (f : Values) (k : Known) → AreKnown f k → (x : Atom) → Says k x → Says k (sized f x (size x))
sized_says f k q (Points c n None) p = says_points k c n (f c) p (q c)
sized_says f k q (Points c n (Some v)) p = says_points k c n (f c) p.0 (q c)
sized_says f k q (Init l) p = p
sized_says f k q (Rel l i xs) p = p
sized_says f k q (Acq l i xs o out) p = p
sized_says f k q (RmwAcq l i xs) p = p
sized_says f k q (Tok b n) p = p
sized_says f k q (Auth b n) p = p

sized_right : (f : Values) (g : Graph) (done : List ℕ) (k : Known) (h : Holder) → AreKnown f k → (x : Atom) → IsRight g done k h x → IsRight g done k h (sized f x (size x))
sized_right f g done k h q (Points c n None) p = says_points k c n (f c) p (q c)
sized_right f g done k h q (Points c n (Some v)) p = says_points k c n (f c) p.0 (q c)
sized_right f g done k h q (Init l) p = p
sized_right f g done k h q (Rel l i xs) p = p
sized_right f g done k h q (Acq l i xs o out) p = p
sized_right f g done k h q (RmwAcq l i xs) p = p
sized_right f g done k h q (Tok b n) p = p
sized_right f g done k h q (Auth b n) p = p

filled_says : (f : Values) (k : Known) → AreKnown f k → (xs : List Piece) → AllSay k xs → AllSay k (filled f xs)
filled_says f k q [] p = tt
filled_says f k q (x ∷ xs) p = (sized_says f k q x.atom p.0, filled_says f k q xs p.1)

filled_right : (f : Values) (g : Graph) (done : List ℕ) (k : Known) (t : ℕ) → AreKnown f k → (xs : List Piece) → RightPieces g done k t xs → RightPieces g done k t (filled f xs)
filled_right f g done k t q [] p = tt
filled_right f g done k t q (x ∷ xs) p = (sized_right f g done k (holder_of t x.level) q x.atom p.0, filled_right f g done k t q xs p.1)

filled_held : (f : Values) (g : Graph) (done : List ℕ) (k : Known) (h : Holder) → AreKnown f k → (xs : List Piece) → AreRight g done k h (atoms_of xs) → AreRight g done k h (atoms_of (filled f xs))
filled_held f g done k h q [] p = tt
filled_held f g done k h q (x ∷ xs) p = (sized_right f g done k h q x.atom p.0, filled_held f g done k h q xs p.1)

line_total : (a b c d e f m : ℕ) → a ≡ d → b ≡ e → c ≡ f → d + (e + f) ≤ m → a + (b + c) ≤ m
line_total a b c d e f m p q r l = omega arith

filled_possible : (f : Values) (xs : List Piece) (p : IsPossible xs) → AreKnown f p.known → IsPossible (filled f xs)
filled_possible f xs p q = record {
  known = p.known;
  within = λ r.
      line_total (demand_at AtPlain (filled f xs) r) (demand_at AtUp (filled f xs) r) (demand_at AtDown (filled f xs) r) (demand_at AtPlain xs r) (demand_at AtUp xs r) (demand_at AtDown xs r)
      (limit p.known r) (filled_demand f AtPlain xs r) (filled_demand f AtUp xs r) (filled_demand f AtDown xs r) (p.within r);
  agree = filled_says f p.known q xs p.agree;
}

-- ---- what both sides say, on both sides

line_same : (a b : ℕ) → a ≡ b → a ≤ b
line_same a b e = omega arith

line_there : (a b : ℕ) → 1 ≤ a → a ≤ b → 1 ≤ b
line_there a b p q = omega arith

both_told : (pool : List Atom) (zs : List Piece) → Told pool zs (atoms_of (filled (value_in (all_placed AtPlain pool ++ zs)) (all_placed AtPlain pool))) (filled (value_in (all_placed AtPlain pool ++ zs)) zs)
both_told pool zs = record {
  of_message = λ r.
      line_same (demand (atoms_of (filled f ps)) r) (demand pool r) (filled_atoms f ps r ∙ ap (λ (ys : List Atom). demand ys r) (atoms_placed AtPlain pool));
  of_thread = λ a r. line_same (demand_at a (filled f zs) r) (demand_at a zs r) (filled_demand f a zs r);
  right = λ g done k h t p q.
      let there : AreRight g done k h (atoms_of ps) = subst (λ (ys : List Atom). AreRight g done k h ys) (sym (atoms_placed AtPlain pool)) p in
      let known = values_known k (ps ++ zs) (say_more k ps zs (held_says g done k h ps there) (all_say g done k t zs q)) in
      (filled_held f g done k h known ps there, filled_right f g done k t known zs q);
}
  where
    ps : List Piece
    ps = all_placed AtPlain pool

    f : Values
    f = value_in (all_placed AtPlain pool ++ zs)

-- what a thread says together with others it says by itself, filled
both_agree : (ps zs : List Piece) → IsPossible (ps ++ zs) → (k : Key) → 1 ≤ heap_of zs k → AgreesAt (truth_of (ps ++ zs)) (truth_of (filled (value_in (ps ++ zs)) zs)) k
both_agree ps zs possible (key.Cell r l) some = λ x is. value_at (value_in (ps ++ zs)) zs r l x is some
both_agree ps zs possible (key.Permission l p) some =
    ap (λ (o : Option (List ℤ)). or_this o []) (out_same (value_in (ps ++ zs)) zs l p) ∙ sym ((front_is_kept ps zs possible).behind.agrees.out l p some)
both_agree ps zs possible (key.Tokens b) some = tt
both_agree ps zs possible (key.Bank b) some = bank_same (value_in (ps ++ zs)) zs b ∙ sym ((front_is_kept ps zs possible).behind.agrees.bank b some)

-- a message and a thread, each of which says the values that they say together
pub record Telling (read : Ground) (more under : Heap) (pool : List Atom) (zs message thread : List Piece) : Type 0 where
  pub told : Told pool zs (atoms_of message) thread
  pub possible : IsPossible (message ++ thread)
  pub shares : (l : ℤ) → more (key.Cell Msg l) ≤ heap_of message (key.Cell Plain l)
  pub values : (l x : ℤ) → 1 ≤ more (key.Cell Msg l) → read.truth.value l ≡ Some x → value_in message l ≡ Some x
  pub given : (l : ℤ) → Knows read (claim.IsInit Msg l) → Knows (ground_of message) (claim.IsInit Plain l)
  pub holds : Holds (without Msg more) under (heap_of thread)
  pub agrees : Agrees read.truth (truth_of thread) (without Msg more)
  pub knows : (c : Claim) → of_message c ≡ false → Needs more c → Knows read c → Knows (ground_of thread) c
  pub kept : Kept zs under thread

-- what the path has of the thread, at a rung but msg
pub without_less : (h : Heap) (k : Key) → without Msg h k ≤ h k
without_less h (key.Cell Plain l) = line_same (h (key.Cell Plain l)) (h (key.Cell Plain l)) refl
without_less h (key.Cell Up l) = line_same (h (key.Cell Up l)) (h (key.Cell Up l)) refl
without_less h (key.Cell Down l) = line_same (h (key.Cell Down l)) (h (key.Cell Down l)) refl
without_less h (key.Cell Msg l) = let z : 0 ≤ h (key.Cell Msg l) = omega arith in z
without_less h (key.Permission l p) = line_same (h (key.Permission l p)) (h (key.Permission l p)) refl
without_less h (key.Tokens b) = line_same (h (key.Tokens b)) (h (key.Tokens b)) refl
without_less h (key.Bank b) = line_same (h (key.Bank b)) (h (key.Bank b)) refl

line_left : (a b c : ℕ) → a + b ≤ c → a ≤ c
line_left a b c h = omega arith

line_most : (a b c : ℕ) → a ≤ b → b ≡ c → a ≤ c
line_most a b c p q = omega arith

pub telling : {read : Ground} {more under : Heap} {pool : List Atom} {zs : List Piece} → Meets read more under pool zs
    → Telling read more under pool zs (filled (value_in (all_placed AtPlain pool ++ zs)) (all_placed AtPlain pool)) (filled (value_in (all_placed AtPlain pool ++ zs)) zs)
telling {read = read} {more = more} {under = under} {pool = pool} {zs = zs} meets = record {
  told = both_told pool zs;
  possible = subst (λ (ws : List Piece). IsPossible ws) (filled_more f ps zs) (filled_possible f (ps ++ zs) meets.possible (values_known meets.possible.known (ps ++ zs) meets.possible.agree));
  shares = λ l. line_most (more (key.Cell Msg l)) (demand pool (resource.Cell l)) (heap_of (filled f ps) (key.Cell Plain l)) (meets.message l) (sym (here l));
  values = λ l x some is.
      filled_value f AtPlain ps l x (meets.agrees.value Msg l x some is)
      (line_there (more (key.Cell Msg l)) (demand_at AtPlain ps (resource.Cell l)) some (line_most (more (key.Cell Msg l)) (demand pool (resource.Cell l)) (demand_at AtPlain ps (resource.Cell l)) (meets.message l) (sym (placed_cells AtPlain pool l))));
  given = λ l known. knows_same f ps (claim.IsInit Plain l) ∙ knows_placed AtPlain AtPlain pool (claim.IsInit Msg l) (meets.given l known);
  holds = λ k. subst (λ (n : ℕ). without Msg more k + under k ≤ n) (sym (filled_heap f zs k)) (meets.thread k);
  agrees = agrees_by (without Msg more) (λ k some.
      at_then read.truth (truth_of (ps ++ zs)) (truth_of (filled f zs)) k (agrees_at meets.agrees k (line_there (without Msg more k) (more k) some (without_less more k)))
      (both_agree ps zs meets.possible k (line_there (without Msg more k) (heap_of zs k) some (line_left (without Msg more k) (under k) (heap_of zs k) (meets.thread k)))));
  knows = λ c other needs known. knows_same f zs c ∙ meets.knows c other needs known;
  kept = record {
    knows = record { more = λ c needs known. knows_same f zs c ∙ known };
    agrees = agrees_by under (λ k some.
        let there = line_there (under k) (heap_of zs k) some (right_within (without Msg more) under (heap_of zs) meets.thread k) in
        at_then (truth_of zs) (truth_of (ps ++ zs)) (truth_of (filled f zs)) k (agrees_at (front_is_kept ps zs meets.possible).behind.agrees k there) (both_agree ps zs meets.possible k there));
  };
}
  where
    ps : List Piece
    ps = all_placed AtPlain pool

    f : Values
    f = value_in (all_placed AtPlain pool ++ zs)

    here : (l : ℤ) → heap_of (filled f ps) (key.Cell Plain l) ≡ demand pool (resource.Cell l)
    here l = filled_demand f AtPlain ps (resource.Cell l) ∙ placed_cells AtPlain pool l
