-- Atomic loads: at each permission for the location the path gains its part, unless it read the value before. Whether it
-- did is known before the part comes, so the permissions are walked one after the other.
use Rattle.std.proofs.Common.{◌≡◌, ℕ, zero, suc, ◌+◌, ◌≤◌, Bool, true, false, List, [], ◌∷◌, ◌++◌, length, slice_get, slice_set, Option, Some, None, ℤ, refl, sym, ap, subst, ◌∙◌, arith}
use Rattle.std.specs.Ordering.{int_eq}
use Rattle.std.specs.List.{list_any}
use Rattle.std.proofs.lemmas.Bool.{and_from}
use Rattle.fsl_base.specs.declared.span.Span.{Span}
use Rattle.fsl_core.specs.declared.act.Act.TheOpen.{Act-F}
use Rattle.fsl_core.specs.declared.act.Stmt.{Stmt}
use Rattle.fsl_core.specs.declared.chunk.Chunk.{Chunk}
use Rattle.fsl_core.specs.declared.chunk.Chunk.TheVariants as chunk
use Rattle.fsl_core.specs.declared.declaration.Inv.{Inv}
use Rattle.fsl_core.specs.declared.expr.Expr.{Expr}
use Rattle.fsl_core.specs.declared.label.Label.TheVariants as label
use Rattle.fsl_core.specs.declared.mode.Mode.{Mode}
use Rattle.fsl_core.specs.declared.mode.Mode.TheVariants as mode
use Rattle.fsl_core.specs.declared.mode.Rung.{Rung}
use Rattle.fsl_core.specs.declared.mode.Rung.TheVariants.{Plain}
use Rattle.fsl_core.specs.declared.need.Need.TheVariants as need
use Rattle.fsl_core.specs.declared.scope.Scope.{Scope}
use Rattle.fsl_core.specs.declared.scope.Sight.TheVariants as sight
use Rattle.fsl_core.specs.declared.verdict.Kind.TheVariants as kind
use Rattle.fsl_core.specs.Modes.{is_atomic}
use Rattle.fsl_core.specs.Moves.{Config, showing, read_reply, act_move}
use Rattle.fsl_core.specs.Scopes.{reads, with_sight}
use Rattle.fsl_core.specs.Values.{value_of}
use Rattle.fsl_core.specs.logic.States.{State, Branches, Action, ◌>>=◌, ◌>>◌, change, look, new_symbol, set}
use Rattle.fsl_core.specs.logic.Terms.{Expression, expr_of, term}
use Rattle.fsl_core.specs.logic.Assertions.{asrt_of}
use Rattle.fsl_core.specs.logic.Chunks.{Permission, find_or, init_at}
use Rattle.fsl_core.specs.logic.Locations.{Setting, setting_of, parts_at, part_at, produce_part}
use Rattle.fsl_core.specs.logic.Locations as located
use Rattle.fsl_core.specs.logic.Accesses.{permission_at, permission_in, permissions, is_excluded, gain, gain_by, gain_each, load, load_atomic}
use Rattle.fsl_core.specs.logic.Accesses as rule
use Rattle.fsl_core.specs.logic.Paths.{Ends, each}
use Rattle.fsl_lin.specs.Combination.{Combination}
use Rattle.fsl_lin.specs.Numbers.{Numbers}
use Rattle.fsl_meaning.specs.Means.{Means}
use Rattle.fsl_meaning.specs.Heaps.{Key, Key as key, Heap, some_of, Holds, Claim as claim, all_in}
use Rattle.fsl_meaning.specs.States.{OwnsPermission, KnowsInit, Stands, EachStands, Owns, All, Opened, Fits}
use Rattle.fsl_meaning.proofs.Terms.{means_more, all_more, all_append, all_one, all_none}
use Rattle.fsl_meaning.proofs.Facts.{proved_equal, lands_symbol}
use Rattle.fsl_meaning.proofs.Heaps.{some_less}
use Rattle.fsl_meaning.proofs.Kept.{agrees_less, knows_less, owns_kept}
use Rattle.fsl_meaning.proofs.Owned.{all_lasts, pull, insert, tells_find_or, fits_back}
use Rattle.fsl_meaning.proofs.Readings.{acq_chunk, init_read}
use Rattle.fsl_asserted.specs.Exact.{exact}
use Rattle.fsl_asserted.specs.Carried.{carried, IsPlain}
use Rattle.fsl_asserted.proofs.Asking.{some_is, value_asked}
use Rattle.fsl_asserted.proofs.Terms.{reads_term}
use Rattle.fsl_kept.specs.Parts.{Part, parts_in, EachPiece}
use Rattle.fsl_kept.proofs.Locals.{lands_set}
use Rattle.fsl_kept.proofs.Parts.{parts_are}
use Rattle.fsl_kept.proofs.Loads.{any_false, lands_excluded, placed_is, set_between, permission_read, any_last, in_more, part_lands}
use Rattle.fsl_own.specs.Atoms.{Atom, Init, Has}
use Rattle.fsl_good.specs.Pieces.{Level, Piece, plain, all_placed, Entails, IsPossible}
use Rattle.fsl_good.specs.Good.{gaining, Gains, Gains as gained, LoadsAt}
use Rattle.fsl_held.specs.Heaps.{heap_of, truth_of, ground_of, knows_in, Kept}
use Rattle.fsl_held.specs.Parts.{rung_of}
use Rattle.fsl_held.specs.Asked.{InvariantAsks, PartAsks, logic_of}
use Rattle.fsl_walk.specs.Stances.{AllDerived, Activation, config_of, IsGood, IsGoodMove, Stance, Runs}
use Rattle.fsl_walk.specs.Walks.{IsClosed}
use Rattle.fsl_walk.proofs.Slots.{sees_same, closed_one}
use Rattle.fsl_walk.proofs.Rounds.{kept_self, kept_less, kept_then, bounded}
use Rattle.fsl_walk.proofs.Steps.{derived_left, each_lands, each_tells, each_followed, each_here, good_given}
use Rattle.fsl_walk.proofs.Showing.{At, frame_of, line_self, Showing, good_read, read_is}
use Rattle.fsl_walk.proofs.Finding.{init_follows}
use Rattle.fsl_walk.proofs.Parting.{EachPlain, AreInvsWell, parts_plain}
use Rattle.fsl_walk.proofs.Receiving.{TakesPermission, takes_permission, has_any, with_gain, Received, received, asked_there}

-- ---- parts by their numbers

plain_part : (invs : List Inv) (ps : List Part) (q : ℕ) (p : Part) → EachPlain invs ps → slice_get ps q ≡ Some p → IsPlain invs p.asrt
plain_part invs [] q p each e = absurd (let d : None ≡ Some p = e in cc)
plain_part invs (x ∷ xs) zero p each e = subst (λ (z : Part). IsPlain invs z.asrt) (some_is e) each.0
plain_part invs (x ∷ xs) (suc q) p each e = plain_part invs xs q p each.1 e

no_piece : (n : ℕ) (v : Numbers) (xs : List located.Piece) (ps : List Part) (q : ℕ) → EachPiece n v xs ps → slice_get ps q ≡ None → slice_get xs q ≡ None
no_piece n v [] [] q each e = refl
no_piece n v [] (p ∷ ps) q each e = absurd each
no_piece n v (x ∷ xs) [] q each e = absurd each
no_piece n v (x ∷ xs) (p ∷ ps) zero each e = absurd (let d : Some p ≡ None = e in cc)
no_piece n v (x ∷ xs) (p ∷ ps) (suc q) each e = no_piece n v xs ps q each.2 e

-- ---- what goes on behind a permission

-- a load at work: the location, the value, their terms, and what comes behind the permissions
record Load : Type 1 where
  pub run : Activation
  pub level : Level
  pub loc : ℤ
  pub value : ℤ
  pub place : Combination
  pub symbol : Combination
  pub slots : List ℤ
  pub base : List Piece
  pub under : Heap
  pub at : Span
  pub goal : List Piece → Type 0

abbrev GainsBy : Load → List Piece → Type 0
GainsBy p xs = Gains (InvariantAsks p.run.program) p.loc p.value p.level p.goal xs

-- a place of the path while it gains
record Spot (p : Load) (xs : List Piece) (w : Numbers) (t : State) : Type 0 where
  pub possible : IsPossible xs
  pub kept : Kept p.base p.under xs
  pub stance : Stance xs p.under p.slots w t
  pub place : Means t.next w p.place p.loc
  pub symbol : Means t.next w p.symbol p.value

abbrev Goes : Load → Ends → Type 0
Goes p ends = (xs : List Piece) (w : Numbers) (t : State) → Spot p xs w t → AllDerived (ends t) → GainsBy p xs

abbrev setting : Load → Setting
setting p = setting_of asrt_of p.run.program

-- ---- a permission was found

record Found (p : Load) (xs : List Piece) (w : Numbers) (t : State) (spot : ℕ) (x : Permission) : Type 0 where
  pub before : List Chunk
  pub behind : List Chunk
  pub long : length before ≡ spot
  pub mine : Heap
  pub here : Heap
  pub rest : Heap
  pub opened : Fits p.slots (Opened (ground_of xs) before (acq_chunk x) behind here rest) w t
  pub own : OwnsPermission (ground_of xs) t.next w x.leave.at x.leave.inv x.leave.args x.part x.out here
  pub loc_is : own.loc ≡ p.loc
  pub holds : Holds here rest mine
  pub parts : Holds mine p.under (heap_of xs)
  pub possible : IsPossible xs
  pub kept : Kept p.base p.under xs
  pub place : Means t.next w p.place p.loc
  pub symbol : Means t.next w p.symbol p.value

-- it gains nothing
same_spot : {p : Load} {xs : List Piece} {w : Numbers} {t : State} {spot : ℕ} {x : Permission} → Found p xs w t spot x → Spot p xs w t
same_spot f = record {
  possible = f.possible;
  kept = f.kept;
  stance = record { mine = f.mine; fits = fits_back f.mine f.opened f.holds; parts = f.parts };
  place = f.place;
  symbol = f.symbol;
}

line_there : (a r m u h : ℕ) → 1 ≤ a → a + r ≤ m → m + u ≤ h → 1 ≤ h
line_there a r m u h i j k = omega arith

found_there : {p : Load} {xs : List Piece} {w : Numbers} {t : State} {spot : ℕ} {x : Permission} (f : Found p xs w t spot x) → 1 ≤ f.here (key.Permission p.loc x.part)
found_there {x = x} f = subst (λ (l : ℤ). 1 ≤ f.here (key.Permission l x.part)) f.loc_is f.own.there

found_known : {p : Load} {xs : List Piece} {w : Numbers} {t : State} {spot : ℕ} {x : Permission} (f : Found p xs w t spot x) → knows_in xs (claim.MayRead p.loc x.leave.inv f.own.numbers) ≡ true
found_known {xs = xs} {x = x} f = subst (λ (l : ℤ). knows_in xs (claim.MayRead l x.leave.inv f.own.numbers) ≡ true) f.loc_is f.own.known

found_excludes : {p : Load} {xs : List Piece} {w : Numbers} {t : State} {spot : ℕ} {x : Permission} (f : Found p xs w t spot x) → all_in ((truth_of xs).out p.loc x.part) f.own.excluded ≡ true
found_excludes {xs = xs} {x = x} f = subst (λ (l : ℤ). all_in ((truth_of xs).out l x.part) f.own.excluded ≡ true) f.loc_is f.own.within

abbrev Taken : (p : Load) (xs : List Piece) (w : Numbers) (t : State) (spot : ℕ) (x : Permission) → Found p xs w t spot x → Type 0
Taken p xs w t spot x f = TakesPermission p.loc x.part x.leave.inv f.own.numbers xs

found_taken : {p : Load} {xs : List Piece} {w : Numbers} {t : State} {spot : ℕ} {x : Permission} (f : Found p xs w t spot x) → Taken p xs w t spot x f
found_taken {p = p} {xs = xs} {x = x} f =
    let k = key.Permission p.loc x.part in
    takes_permission p.loc x.part x.leave.inv f.own.numbers xs f.possible (line_there (f.here k) (f.rest k) (f.mine k) (p.under k) (heap_of xs k) (found_there f) (f.holds k) (f.parts k))
    (found_known f)

-- ---- the pieces behind a gain

abbrev after_gain : (p : Load) (xs : List Piece) (w : Numbers) (t : State) (spot : ℕ) (x : Permission) (f : Found p xs w t spot x) → Taken p xs w t spot x f → List Atom → List Piece
after_gain p xs w t spot x f k ys = with_gain p.loc x.part x.leave.inv f.own.numbers (p.value ∷ k.out) p.level ys k.rest

line_rest : (d a r m u h g : ℕ) → d ≤ a → a + r ≤ m → m + u ≤ h → h ≡ g + d → r ≤ g
line_rest d a r m u h g i j k e = omega arith

line_under : (d a r m u h g : ℕ) → d ≤ a → a + r ≤ m → m + u ≤ h → h ≡ g + d → u ≤ g
line_under d a r m u h g i j k e = omega arith

line_more : (n l d m u h g z : ℕ) → n ≤ l → m + u ≤ h → h ≡ g + d → z ≡ d + (l + g) → (n + m) + u ≤ z
line_more n l d m u h g z i j e f = omega arith

line_same : (l d m u h g z : ℕ) → m + u ≤ h → h ≡ g + d → z ≡ d + (l + g) → m + u ≤ z
line_same l d m u h g z j e f = omega arith

line_within : (n u z : ℕ) → n + u ≤ z → n ≤ z
line_within n u z i = omega arith

-- the permission with the value that was read now, among the chunks
abbrev new_chunk : Load → Permission → Chunk
new_chunk p x = chunk.Acq x.leave.at x.leave.inv x.leave.args x.part (x.out ++ p.symbol ∷ [])

abbrev changed : Load → ℕ → Permission → State → State
changed p spot x t = record t { chunks = slice_set t.chunks spot (new_chunk p x) }

changed_fits : (p : Load) (xs : List Piece) (w : Numbers) (t : State) (spot : ℕ) (x : Permission) (f : Found p xs w t spot x) (k : Taken p xs w t spot x f) (ys : List Atom)
    → Received p.loc x.part x.leave.inv f.own.numbers (p.value ∷ k.out) p.level ys k.rest → Fits p.slots (All (ground_of (after_gain p xs w t spot x f k ys)) f.mine) w (changed p spot x t)
changed_fits p xs w t spot x f k ys r =
    let zs = after_gain p xs w t spot x f k ys in
    let later = ground_of zs in
    let own = f.own in
    let one = some_of (key.Permission p.loc x.part) 1 in
    let kept = kept_then k.kept r.behind in
    let less = λ (q : Key). line_rest (one q) (f.here q) (f.rest q) (f.mine q) (p.under q) (heap_of xs q) (heap_of k.rest q) (some_less (key.Permission p.loc x.part) 1 f.here
    (found_there f) q) (f.holds q) (f.parts q) (k.left q) in
    let excludes : all_in k.out own.excluded ≡ true = subst (λ (o : List ℤ). all_in o own.excluded ≡ true) (sym k.is) (found_excludes f) in
    let stands : OwnsPermission later t.next w x.leave.at x.leave.inv x.leave.args x.part (x.out ++ p.symbol ∷ []) f.here = record {
      loc = p.loc;
      numbers = own.numbers;
      excluded = own.excluded ++ p.value ∷ [];
      at_is = subst (λ (l : ℤ). Means t.next w x.leave.at l) f.loc_is own.at_is;
      args_are = own.args_are;
      out_are = all_append own.out_are (all_one f.symbol all_none);
      known = r.knows;
      within = subst (λ (o : List ℤ). all_in o (own.excluded ++ p.value ∷ []) ≡ true) (sym r.says)
          (and_from (list_any (int_eq p.value) (own.excluded ++ p.value ∷ [])) (all_in k.out (own.excluded ++ p.value ∷ [])) (any_last p.value own.excluded)
          (in_more p.value k.out own.excluded excludes));
      there = found_there f;
    } in
    let others : Owns later t.next w (f.before ++ f.behind) f.rest = owns_kept later (knows_less f.rest (heap_of k.rest) less kept.knows)
    (agrees_less f.rest (heap_of k.rest) less kept.agrees) f.opened.owns.others in
    let listed : slice_set t.chunks spot (new_chunk p x) ≡ f.before ++ new_chunk p x ∷ f.behind =
    ap (λ (cs : List Chunk). slice_set cs spot (new_chunk p x)) f.opened.owns.list
    ∙ ap (λ (i : ℕ). slice_set (f.before ++ acq_chunk x ∷ f.behind) i (new_chunk p x)) (sym f.long) ∙ set_between f.before f.behind (acq_chunk x) (new_chunk p x) in
    record {
      one = f.opened.one;
      facts = f.opened.facts;
      env = f.opened.env;
      owns = record {
        each = subst (λ (cs : List Chunk). EachStands later t.next w cs f.mine) (sym listed) (insert later t.next w f.before
            (new_chunk p x) f.behind f.here f.rest f.mine f.holds stands others.each);
      };
    }

kept_behind : (p : Load) (xs : List Piece) (w : Numbers) (t : State) (spot : ℕ) (x : Permission) (f : Found p xs w t spot x) (k : Taken p xs w t spot x f) (ys : List Atom)
    → Received p.loc x.part x.leave.inv f.own.numbers (p.value ∷ k.out) p.level ys k.rest → Kept p.base p.under (after_gain p xs w t spot x f k ys)
kept_behind p xs w t spot x f k ys r =
    let one = some_of (key.Permission p.loc x.part) 1 in
    kept_then f.kept (kept_less p.under (heap_of k.rest)
    (λ q. line_under (one q) (f.here q) (f.rest q) (f.mine q) (p.under q) (heap_of xs q) (heap_of k.rest q) (some_less (key.Permission p.loc x.part) 1 f.here (found_there f) q) (f.holds q)
    (f.parts q) (k.left q))
    (kept_then k.kept r.behind))

-- the part is produced, where there is one
gains_part : (p : Load) (xs : List Piece) (w : Numbers) (t : State) (spot : ℕ) (x : Permission) (ends : Ends) (f : Found p xs w t spot x) (k : Taken p xs w t spot x f) (ys : List Atom)
    (o : Option Part) → AreInvsWell p.run.program
    → slice_get (parts_in p.run.program x.leave.inv f.own.numbers p.value) x.part ≡ o → PartAsks o ys → IsPossible (after_gain p xs w t spot x f k ys)
    → AllDerived (each p.at (produce_part (rung_of p.level) (part_at (setting p) x.leave x.part p.symbol) (changed p spot x t)) (λ u. ends)) → Goes p ends
    → GainsBy p (after_gain p xs w t spot x f k ys)
gains_part p xs w t spot x ends f k ys None well is asked possible d goes =
    let zs = after_gain p xs w t spot x f k ys in
    let r = received p.loc x.part x.leave.inv f.own.numbers (p.value ∷ k.out) p.level ys k.rest possible in
    let one = some_of (key.Permission p.loc x.part) 1 in
    let are = parts_are p.run.program x.leave f.own.args_are f.symbol in
    let none : part_at (setting p) x.leave x.part p.symbol ≡ None = no_piece t.next w (parts_at (setting p) x.leave p.symbol)
    (parts_in p.run.program x.leave.inv f.own.numbers p.value) x.part are.each is in
    let next = subst (λ (o : Option located.Piece). AllDerived (each p.at (produce_part (rung_of p.level) o (changed p spot x t)) (λ u. ends))) none d in
    goes zs w (changed p spot x t)
    (record {
      possible = possible;
      kept = kept_behind p xs w t spot x f k ys r;
      stance = record {
        mine = f.mine;
        fits = changed_fits p xs w t spot x f k ys r;
        parts = λ q. line_same (heap_of (all_placed p.level ys) q) (one q) (f.mine q) (p.under q) (heap_of xs q) (heap_of k.rest q) (heap_of zs q) (f.parts q) (k.left q) (r.sum q);
      };
      place = f.place;
      symbol = f.symbol;
    })
    (derived_left (ends (changed p spot x t)) [] next)
gains_part p xs w t spot x ends f k ys (Some part) well is asked possible d goes =
    let zs = after_gain p xs w t spot x f k ys in
    let r = received p.loc x.part x.leave.inv f.own.numbers (p.value ∷ k.out) p.level ys k.rest possible in
    let one = some_of (key.Permission p.loc x.part) 1 in
    let rung = rung_of p.level in
    let ps = parts_in p.run.program x.leave.inv f.own.numbers p.value in
    let plain = plain_part p.run.program.invs ps x.part part (parts_plain p.run.program x.leave.inv f.own.numbers p.value well) is in
    let n = carried Plain rung asked.0 in
    let there = asked_there p.run.program.invs part.asrt part.numbers asked.0 p.level ys zs plain asked.1 r.front in
    let more : Heap = λ q. n.heap q + f.mine q in
    let parts = λ (q : Key). line_more (n.heap q) (heap_of (all_placed p.level ys) q) (one q) (f.mine q) (p.under q) (heap_of xs q) (heap_of k.rest q) (heap_of zs q) (there.enough q)
    (f.parts q) (k.left q) (r.sum q) in
    let landed = each_lands p.at (λ u. ends)
    (part_lands {s = changed p spot x t} rung (parts_at (setting p) x.leave p.symbol) ps x.part part n more (changed_fits p xs w t spot x f k ys r)
    (parts_are p.run.program x.leave f.own.args_are f.symbol) is there.is there.known
    (λ q. line_self (more q)) (bounded zs more possible (λ q. line_within (more q) (p.under q) (heap_of zs q) (parts q)))) d in
    goes zs landed.numbers landed.state
    (record {
      possible = possible;
      kept = kept_behind p xs w t spot x f k ys r;
      stance = record { mine = more; fits = landed.is; parts = parts };
      place = means_more landed.grows f.place;
      symbol = means_more landed.grows f.symbol;
    })
    landed.derived

-- ---- at a permission

gains_by : (p : Load) (xs : List Piece) (w : Numbers) (t : State) (spot : ℕ) (x : Permission) (ends : Ends) (b : Bool) (f : Found p xs w t spot x) → AreInvsWell p.run.program
    → b ≡ list_any (int_eq p.value) f.own.excluded
    → AllDerived (each p.at (gain (setting p) (rung_of p.level) p.symbol spot x b t) (λ u. ends)) → Goes p ends → GainsBy p xs
gains_by p xs w t spot x ends true f well e d goes = goes xs w t (same_spot f) (derived_left (ends t) [] d)
gains_by p xs w t spot x ends false f well e d goes =
    let k = found_taken f in
    let produced = each_followed p.at (λ u s. produce_part (rung_of p.level) (part_at (setting p) x.leave x.part p.symbol) s) (λ u. ends) (change (changed p spot x) t) d in
    let last = derived_left (each p.at (produce_part (rung_of p.level) (part_at (setting p) x.leave x.part p.symbol) (changed p spot x t)) (λ u. ends)) [] produced in
    let fresh : list_any (int_eq p.value) ((truth_of xs).out p.loc x.part) ≡ false =
    any_false p.value ((truth_of xs).out p.loc x.part) f.own.excluded (found_excludes f) (list_any (int_eq p.value) ((truth_of xs).out p.loc x.part)) refl (sym e) in
    let other : Has p.value k.out → ⊥ = λ has. not_both (has_any p.value k.out has) (ap (λ (o : List ℤ). list_any (int_eq p.value) o) k.is ∙ fresh) in
    gained.gains x.leave.inv f.own.numbers x.part k.out k.follows other (λ ys asked possible.
    gains_part p xs w t spot x ends f k ys (slice_get (parts_in p.run.program x.leave.inv f.own.numbers p.value) x.part) well refl asked possible last goes)
  where
    not_both : {b : Bool} → b ≡ true → b ≡ false → ⊥
    not_both e f = let g : true ≡ false = sym e ∙ f in cc

gains_at : (p : Load) (xs : List Piece) (w : Numbers) (t : State) (spot : ℕ) (o : Option Permission) (ends : Ends) → AreInvsWell p.run.program → permission_in p.place spot t ≡ o → Spot p xs w t
    → AllDerived (each p.at (gain_by (setting p) (rung_of p.level) p.symbol spot o t) (λ u. ends)) → Goes p ends → GainsBy p xs
gains_at p xs w t spot None ends well e here d goes = goes xs w t here (derived_left (ends t) [] d)
gains_at p xs w t spot (Some x) ends well e here d goes =
    let g = ground_of xs in
    let mine = here.stance.mine in
    let fit = here.stance.fits in
    let i = value_asked (slice_get t.chunks spot) (permission_at p.place t.facts) x e in
    let r = permission_read p.place t.facts i.value x i.then_is in
    let l = placed_is t.chunks spot i.value i.is in
    let list : t.chunks ≡ l.before ++ acq_chunk x ∷ l.behind = l.list ∙ ap (λ (c : Chunk). l.before ++ c ∷ l.behind) r.0 in
    let all : EachStands g t.next w (l.before ++ acq_chunk x ∷ l.behind) mine = subst (λ (cs : List Chunk). EachStands g t.next w cs mine) list fit.owns.each in
    let o = pull l.before (acq_chunk x) l.behind mine all in
    let own : OwnsPermission g t.next w x.leave.at x.leave.inv x.leave.args x.part x.out o.mine = o.stands in
    let loc_is : own.loc ≡ p.loc = proved_equal fit.one fit.facts own.at_is here.place r.1 in
    let opened : Fits p.slots (Opened g l.before (acq_chunk x) l.behind o.mine o.rest) w t =
    record { one = fit.one; facts = fit.facts; env = fit.env; owns = record { list = list; stands = o.stands; others = record { each = o.each } } } in
    let landed = each_lands p.at (λ b s. each p.at (gain (setting p) (rung_of p.level) p.symbol spot x b s) (λ u. ends)) (lands_excluded p.symbol x.out own.excluded opened here.symbol own.out_are)
    (each_followed p.at (λ b s. gain (setting p) (rung_of p.level) p.symbol spot x b s) (λ u. ends) (is_excluded p.symbol x.out t) d) in
    let k = landed.grows in
    let later : OwnsPermission g landed.state.next landed.numbers x.leave.at x.leave.inv x.leave.args x.part x.out o.mine = record {
      loc = own.loc;
      numbers = own.numbers;
      excluded = own.excluded;
      at_is = means_more k own.at_is;
      args_are = all_more k own.args_are;
      out_are = all_more k own.out_are;
      known = own.known;
      within = own.within;
      there = own.there;
    } in
    gains_by p xs landed.numbers landed.state spot x ends landed.gives
    (record {
      before = l.before;
      behind = l.behind;
      long = l.long;
      mine = mine;
      here = o.mine;
      rest = o.rest;
      opened = landed.is.1;
      own = later;
      loc_is = loc_is;
      holds = o.holds;
      parts = here.stance.parts;
      possible = here.possible;
      kept = here.kept;
      place = means_more k here.place;
      symbol = means_more k here.symbol;
    }) well landed.is.0 landed.derived goes

-- ---- at all of them

gains_each : (p : Load) (places : List ℕ) (ends : Ends) → AreInvsWell p.run.program → ((xs : List Piece) (w : Numbers) (t : State) → Spot p xs w t → AllDerived (ends t) → p.goal xs)
    → (xs : List Piece) (w : Numbers) (t : State) → Spot p xs w t
    → AllDerived (each p.at (gain_each (setting p) (rung_of p.level) p.place p.symbol places t) (λ u. ends)) → GainsBy p xs
gains_each p [] ends well goes xs w t here d = gained.enough (goes xs w t here (derived_left (ends t) [] d))
gains_each p (spot ∷ places) ends well goes xs w t here d =
    let one = λ (o : Option Permission). gain_by (setting p) (rung_of p.level) p.symbol spot o in
    let rest = gain_each (setting p) (rung_of p.level) p.place p.symbol places in
    let found = permission_in p.place spot t in
    let looked = each_followed p.at (λ o. one o >> rest) (λ u. ends) (look (permission_in p.place spot) t) d in
    let both = derived_left (each p.at ((one found >> rest) t) (λ u. ends)) [] looked in
    gains_at p xs w t spot found (λ s. each p.at (rest s) (λ u. ends)) well refl here (each_followed p.at (λ u. rest) (λ u. ends) (one found t) both) (λ zs w2 t2 there e.
    gains_each p places ends well goes zs w2 t2 there e)

-- ---- modes

pub gaining_rung : (m : Mode) → rung_of (gaining m) ≡ rule.gaining m
gaining_rung mode.Na = refl
gaining_rung mode.Rlx = refl
gaining_rung mode.Acq = refl
gaining_rung mode.Rel = refl
gaining_rung mode.AcqRel = refl

not_atomic : false ≡ true → ⊥
not_atomic e = cc

-- an atomic load is no other
load_is : (p : Setting) (slot : ℕ) (m : Mode) (at : Expression) → is_atomic m ≡ true → load p slot m at ≡ load_atomic p slot m at
load_is p slot mode.Na at h = absurd (not_atomic h)
load_is p slot mode.Rlx at h = refl
load_is p slot mode.Acq at h = refl
load_is p slot mode.Rel at h = refl
load_is p slot mode.AcqRel at h = refl

-- ---- the load

abbrev gain_all : Setting → ℕ → Mode → Combination → Combination → List ℕ → Action
gain_all p slot m a v places = gain_each p (rule.gaining m) a v places >> set slot v

abbrev behind_symbol : Setting → ℕ → Mode → Combination → Combination → Action
behind_symbol p slot m a v = look (λ s. permissions s.facts a 0 s.chunks) >>= gain_all p slot m a v

abbrev behind_init : Setting → ℕ → Mode → Combination → Action
behind_init p slot m a = new_symbol >>= behind_symbol p slot m a

abbrev behind_place : Setting → ℕ → Mode → Combination → Action
behind_place p slot m a = find_or kind.Init (init_at Plain a) >> behind_init p slot m a

pub loads_at : (u : Activation) (m : ℕ) (next : Config) (b : Bool) (md : Mode) (loc y : ℤ) (xs : List Piece) → b ≡ true → Entails xs (plain (Init loc) ∷ [])
    → Gains (InvariantAsks u.program) loc y (gaining md) (IsGood u m next) xs
    → LoadsAt (logic_of u.program) b md loc y (IsGood u m next) xs
loads_at u m next true md loc y xs e init gain = (init, gain)
loads_at u m next false md loc y xs e init gain = absurd (cc)

-- the value was read, and the permissions are walked
loads_value : {scope : Scope} {Q : List ℤ → Type 0} {base : List Piece} {under : Heap} {xs : List Piece} {slots env : List ℤ} {v : Numbers} {s : State}
    (u : Activation) (m : ℕ) (after : Ends) (rest : List Stmt) (slot : ℕ) (md : Mode) (at : Span) (a : Combination) (loc y : ℤ) → AreInvsWell u.program
    → IsClosed Q (slot ∷ []) → Runs u m after rest (with_sight slot sight.Local scope) Q base under → At scope Q base under xs slots env v s → Means s.next v a loc
    → AllDerived (each at (behind_init (setting_of asrt_of u.program) slot md a s) (λ x. after))
    → Gains (InvariantAsks u.program) loc y (gaining md) (IsGood u m (config_of u rest (slice_set env slot y))) xs
loads_value {scope = scope} {Q = Q} {under = under} {xs = xs} {slots = slots} {env = env} {s = s} u m after rest slot md at a loc y well closed runs here a_is d =
    let q = setting_of asrt_of u.program in
    let mine = here.stance.mine in
    let landed = each_lands at (λ d t. each at (behind_symbol q slot md a d t) (λ x. after)) (lands_symbol y (all_lasts (ground_of xs) mine) here.stance.fits)
    (each_followed at (behind_symbol q slot md a) (λ x. after) (new_symbol s) d) in
    let d = landed.gives in
    let t = landed.state in
    let places = permissions t.facts a 0 t.chunks in
    let looked = each_followed at (gain_all q slot md a d) (λ x. after) (look (λ s. permissions s.facts a 0 s.chunks) t) landed.derived in
    let gains = each_followed at (λ u. set slot d) (λ x. after) (gain_each q (rule.gaining md) a d places t) (derived_left (each at (gain_all q slot md a d places t) (λ x. after)) [] looked) in
    let p : Load = record {
      run = u;
      level = gaining md;
      loc = loc;
      value = y;
      place = a;
      symbol = d;
      slots = slots;
      base = xs;
      under = under;
      at = at;
      goal = IsGood u m (config_of u rest (slice_set env slot y));
    } in
    gains_each p places (λ r. each at (set slot d r) (λ x. after)) well (λ zs w r spot e.
    let set_to = each_lands at (λ x. after) (lands_set slot spot.stance.fits spot.symbol) e in
    runs m (line_self m) zs (slice_set slots slot y) (slice_set env slot y) set_to.numbers set_to.state (kept_then here.kept spot.kept)
    (record { mine = spot.stance.mine; fits = set_to.is; parts = spot.stance.parts })
    (sees_same scope env slots slot sight.Local y here.matches) (closed_one Q slots slot y closed here.holds) set_to.derived)
    xs landed.numbers t
    (record {
      possible = here.possible;
      kept = kept_self xs under;
      stance = record { mine = mine; fits = landed.is.0; parts = here.stance.parts };
      place = means_more landed.grows a_is;
      symbol = landed.is.1;
    })
    (subst (λ (g : Rung). AllDerived (each at (gain_each q g a d places t) (λ x r. each at (set slot d r) (λ z. after)))) (sym (gaining_rung md)) gains)

pub atomic_load_moves : {scope : Scope} {Q : List ℤ → Type 0} {base : List Piece} {under : Heap} {xs : List Piece} {slots env : List ℤ} {v : Numbers} {s : State}
    (u : Activation) (m : ℕ) (after : Ends) (stmt : Stmt) (rest : List Stmt) (slot : ℕ) (md : Mode) (e : Expr) (at : Span) → is_atomic md ≡ true → AreInvsWell u.program
    → reads scope e ≡ true → IsClosed Q (slot ∷ []) → Runs u m after rest (with_sight slot sight.Local scope) Q base under → At scope Q base under xs slots env v s
    → AllDerived (each at (load (setting_of asrt_of u.program) slot md (expr_of e) s) (λ x. after)) → IsGoodMove u m (act_move u.program (Act-F.Load slot md e) stmt (frame_of u rest env) u.below) xs
atomic_load_moves {xs = xs} {slots = slots} {env = env} {v = v} {s = s} u m after stmt rest slot md e at atomic well reads closed runs here d =
    let q = setting_of asrt_of u.program in
    let g = ground_of xs in
    let fit = here.stance.fits in
    let place = exact e slots in
    let derived = subst (λ (r : State → Branches (Unit {0})). AllDerived (each at (r s) (λ x. after))) (load_is q slot md (expr_of e) atomic) d in
    let told = each_tells at (λ a t. each at (behind_place q slot md a t) (λ x. after)) (reads_term e fit fit.env)
    (each_followed at (behind_place q slot md) (λ x. after) (term (expr_of e) s.env s) (each_here at (λ env. term (expr_of e) env >>= behind_place q slot md) (λ x. after) s derived)) in
    let a = told.gives in
    let found = each_tells at (λ f t. each at (behind_init q slot md a t) (λ x. after)) (tells_find_or kind.Init (init_at Plain a) fit)
    (each_followed at (λ f. behind_init q slot md a) (λ x. after) (find_or kind.Init (init_at Plain a) s) told.derived) in
    let out = found.is in
    let r = init_read Plain a s.facts out.item found.gives.is out.reads_as in
    let k : KnowsInit g s.next v Plain found.gives.is = subst (λ (c : Chunk). Stands g s.next v c out.mine) r.0 out.fits.owns.stands in
    let same : k.loc ≡ place = proved_equal fit.one fit.facts k.at_is told.is r.1 in
    let init : knows_in xs (claim.IsInit Plain place) ≡ true = subst (λ (l : ℤ). knows_in xs (claim.IsInit Plain l) ≡ true) same k.known in
    let shows = λ (y : ℤ). loads_at u m (config_of u rest (slice_set env slot y)) (is_atomic md) md place y xs atomic (init_follows xs place init)
    (loads_value u m after rest slot md at a place y well closed runs here told.is found.derived) in
    good_given u m (value_of e env) (λ loc. record {
      need = need.Load md loc;
      answered = λ r. read_reply r (λ y. showing (label.Load md loc y)
          (config_of u rest (slice_set env slot y)));
    }) xs (λ loc is.
    good_read u m (need.Load md loc) (λ y. label.Load md loc y) (λ y. config_of u rest (slice_set env slot y)) xs (λ n. absurd (cc)) (λ y.
    subst (λ (l : ℤ). Showing u m (need.Load md l) (label.Load md l y) (config_of u rest (slice_set env slot y)) xs) (read_is e loc here.matches reads is) (shows y)))
