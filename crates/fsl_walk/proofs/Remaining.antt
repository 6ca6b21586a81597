-- What a thread has behind a read-modify-write: what it kept of the message where the read puts it, shares that joined its
-- own, and what it didn't give away.
use Rattle.std.proofs.Common.{◌≡◌, ◌⊎◌, inl, inr, ℕ, zero, suc, ◌+◌, ◌≤◌, ◌&&◌, ◌||◌, Bool, true, false, List, ◌++◌, Some, ℤ, refl, sym, ap, subst, ◌∙◌, arith}
use Rattle.std.proofs.lemmas.Bool.{and_parts, or_cases}
use Rattle.fsl_core.specs.declared.mode.Rung.{Rung}
use Rattle.fsl_core.specs.declared.mode.Rung.TheVariants.{Plain, Up, Down, Msg}
use Rattle.fsl_core.specs.logic.Chunks.{same_rung}
use Rattle.fsl_core.specs.logic.States.{State}
use Rattle.fsl_lin.specs.Numbers.{Numbers}
use Rattle.fsl_meaning.specs.Heaps.{Key, Key as key, Heap, Holds, Claim, Claim as claim, Ground, Knows, Needs, KnowsMore, Agrees}
use Rattle.fsl_meaning.specs.States.{All, Fits}
use Rattle.fsl_meaning.proofs.Heaps.{same_rung_is}
use Rattle.fsl_meaning.proofs.Kept.{needs_less, fits_kept}
use Rattle.fsl_kept.specs.Changes.{lifted, without}
use Rattle.fsl_updated.specs.Grounds.{of_message, learns, learning}
use Rattle.fsl_own.specs.Owning.{Cell}
use Rattle.fsl_own.specs.Atoms.{Atom, demand}
use Rattle.fsl_good.specs.Pieces.{Level, AtPlain, Piece, all_placed, IsPossible}
use Rattle.fsl_held.specs.Heaps.{heap_of, truth_of, ground_of, is_at, Kept}
use Rattle.fsl_held.specs.Parts.{rung_of, IsInFront, Cut}
use Rattle.fsl_held.proofs.Heaps.{knows_front, knows_behind}
use Rattle.fsl_held.proofs.Fronts.{front_is_kept}
use Rattle.fsl_walk.specs.Stances.{Stance}
use Rattle.fsl_walk.proofs.Agreeing.{AgreesAt, agrees_at, agrees_by, at_then}
use Rattle.fsl_walk.proofs.Rounds.{kept_less, kept_then}
use Rattle.fsl_walk.proofs.Placing.{cells_placed, at_rung}
use Rattle.fsl_walk.proofs.Telling.{Telling}
use Rattle.fsl_walk.proofs.Dividing.{Shares}
use Rattle.fsl_walk.proofs.Wanting.{lifted_placed, lifted_agrees}

line_there : (a b : ℕ) → 1 ≤ a → a ≤ b → 1 ≤ b
line_there a b p q = omega arith

line_equal : (a b : ℕ) → a ≡ b → b ≤ a
line_equal a b e = omega arith

-- w is what the path has beside msg, l is left of it, and a was given away; h is what the thread has, and r what is left of it
line_rest : (w l a u h r : ℕ) → w ≡ l + a → w + u ≤ h → h ≡ r + a → l + u ≤ r
line_rest w l a u h r e p q = omega arith

line_first : (a b c : ℕ) → a + b ≤ c → a ≤ c
line_first a b c h = omega arith

line_last : (a b c : ℕ) → a + b ≤ c → b ≤ c
line_last a b c h = omega arith

line_parts : (k j l u gk gj r jr all : ℕ) → k ≤ gk → j ≤ gj → l + u ≤ r → jr ≡ gj + r → all ≡ gk + jr → (k + (j + l)) + u ≤ all
line_parts k j l u gk gj r jr all p q s e f = omega arith

line_less : (l a w : ℕ) → w ≡ l + a → l ≤ w
line_less l a w e = omega arith

-- some of three
either : (a b c : ℕ) → 1 ≤ a + (b + c) → (1 ≤ a) ⊎ ((1 ≤ b) ⊎ (1 ≤ c))
either (suc a) b c h = inl (omega arith)
either zero (suc b) c h = inr (inl (omega arith))
either zero zero c h = inr (inr (omega (arith, h)))

-- a claim of the message, or none
of_message_or : (c : Claim) → ((l : ℤ) × (c ≡ claim.IsInit Msg l)) ⊎ (of_message c ≡ false)
of_message_or (claim.IsInit Plain l) = inr refl
of_message_or (claim.IsInit Up l) = inr refl
of_message_or (claim.IsInit Down l) = inr refl
of_message_or (claim.IsInit Msg l) = inl (l, refl)
of_message_or (claim.MayWrite l i xs) = inr refl
of_message_or (claim.MayRead l i xs) = inr refl
of_message_or (claim.MayUpdate l i xs) = inr refl

-- what was learned was known of the message
learned_is : (rung : Rung) (read : Ground) (c : Claim) → learns rung read c ≡ true → (l : ℤ) × (c ≡ claim.IsInit rung l) × Knows read (claim.IsInit Msg l)
learned_is rung read (claim.IsInit r l) h =
    let p = and_parts (same_rung r rung) (read.knows (claim.IsInit Msg l)) h in
    (l, ap (λ (q : Rung). claim.IsInit q l) (same_rung_is r rung p.0), p.1)
learned_is rung read (claim.MayWrite l i xs) h = absurd (let e : false ≡ true = h in cc)
learned_is rung read (claim.MayRead l i xs) h = absurd (let e : false ≡ true = h in cc)
learned_is rung read (claim.MayUpdate l i xs) h = absurd (let e : false ≡ true = h in cc)

-- permissions stand in what is left
needs_left : (kept joined left : Heap) (rung : Rung) (c : Claim) → Needs (λ k. lifted Msg rung kept k + (lifted Msg Plain joined k + left k)) c → Needs left c
needs_left kept joined left rung (claim.IsInit r l) n = tt
needs_left kept joined left rung (claim.MayWrite l i xs) n = tt
needs_left kept joined left rung (claim.MayUpdate l i xs) n = tt
needs_left kept joined left rung (claim.MayRead l i xs) n = (n.0, let h : 1 ≤ 0 + (0 + left (key.Permission l n.0)) = n.1 in omega (arith, h))

-- the pieces that the thread then has
abbrev pub remaining : Level → List Atom → List Atom → List Piece → List Piece
remaining level left joins rest = all_placed level left ++ (all_placed AtPlain joins ++ rest)

pub record Remains (zs : List Piece) (under : Heap) (later : List ℤ) (w : Numbers) (s : State) (fs : List Piece) : Type 0 where
  pub kept : Kept zs under fs
  pub stance : Stance fs under later w s

pub remains : {read : Ground} {more under given kept joined added : Heap} {pool : List Atom} {zs message thread : List Piece} {level : Level} {later : List ℤ} {w : Numbers} {s : State}
    (at : Level) (left : Heap) → Telling read more under pool zs message thread → (sh : Shares given kept joined message) → (c : Cut level added thread)
    → ((l : ℤ) → kept (key.Cell Msg l) ≤ more (key.Cell Msg l)) → ((l : ℤ) → joined (key.Cell Msg l) ≤ more (key.Cell Msg l))
    → ((k : Key) → without Msg more k ≡ left k + added k) → ((k : Key) → left k ≤ more k)
    → Fits later (All (learning (rung_of at) read) (λ k. lifted Msg (rung_of at) kept k + (lifted Msg Plain joined k + left k))) w s
    → IsPossible (remaining at sh.left sh.joins c.rest) → Remains zs under later w s (remaining at sh.left sh.joins c.rest)
remains {read = read} {more = more} {under = under} {kept = kept} {joined = joined} {added = added} {zs = zs} {message = message} {thread = thread} at left tells sh c less_kept less_joined parts less_left fits possible = record {
  kept = kept_then tells.kept (kept_then (kept_less under (heap_of c.rest) (λ k. line_last (left k) (under k) (heap_of c.rest k) (room k)) c.is.kept) (kept_then beside_rest beside_all));
  stance = record {
    mine = λ k. lifted Msg (rung_of at) kept k + (lifted Msg Plain joined k + left k);
    fits = fits_kept (ground_of all) (record { more = knows }) agrees fits;
    parts = λ k.
        line_parts (lifted Msg (rung_of at) kept k) (lifted Msg Plain joined k) (left k) (under k) (heap_of own k) (heap_of more_shares k) (heap_of c.rest k) (heap_of behind k) (heap_of all k)
        (lifted_placed at kept sh.left sh.left_is k) (lifted_placed AtPlain joined sh.joins (λ l. line_equal (demand sh.joins (Cell l)) (joined (key.Cell Msg l)) (sh.joins_are l)) k)
        (room k) (inner.sum k) (outer.sum k);
  };
}
  where
    own : List Piece
    own = all_placed at sh.left

    more_shares : List Piece
    more_shares = all_placed AtPlain sh.joins

    behind : List Piece
    behind = more_shares ++ c.rest

    all : List Piece
    all = own ++ behind

    outer : IsInFront own behind
    outer = front_is_kept own behind possible

    inner : IsInFront more_shares c.rest
    inner = front_is_kept more_shares c.rest outer.possible

    room : (k : Key) → left k + under k ≤ heap_of c.rest k
    room k = line_rest (without Msg more k) (left k) (added k) (under k) (heap_of thread k) (heap_of c.rest k) (parts k) (tells.holds k) (c.is.left k)

    beside_rest : Kept c.rest under behind
    beside_rest = kept_less under (heap_of c.rest) (λ k. line_last (left k) (under k) (heap_of c.rest k) (room k)) inner.behind

    line_plus : (l u a b r : ℕ) → l + u ≤ r → b ≡ a + r → u ≤ b
    line_plus l u a b r p e = omega arith

    beside_all : Kept behind under all
    beside_all = kept_less under (heap_of behind) (λ k. line_plus (left k) (under k) (heap_of more_shares k) (heap_of behind k) (heap_of c.rest k) (room k) (inner.sum k)) outer.behind

    rest_there : (k : Key) → 1 ≤ left k → 1 ≤ heap_of c.rest k
    rest_there k some = line_there (left k) (heap_of c.rest k) some (line_first (left k) (under k) (heap_of c.rest k) (room k))

    line_sum : (a b r : ℕ) → b ≡ a + r → r ≤ b
    line_sum a b r e = omega arith

    line_front : (a b r : ℕ) → b ≡ a + r → a ≤ b
    line_front a b r e = omega arith

    behind_there : (k : Key) → 1 ≤ heap_of c.rest k → 1 ≤ heap_of behind k
    behind_there k some = line_there (heap_of c.rest k) (heap_of behind k) some (line_sum (heap_of more_shares k) (heap_of behind k) (heap_of c.rest k) (inner.sum k))

    -- what the message said of what is kept
    own_values : (l x : ℤ) → 1 ≤ kept (key.Cell Msg l) → read.truth.value l ≡ Some x → (truth_of all).value l ≡ Some x
    own_values l x some said =
        outer.front.agrees.value (rung_of at) l x (line_there (kept (key.Cell Msg l)) (heap_of own (key.Cell (rung_of at) l)) some (subst (λ (n : ℕ). kept (key.Cell Msg l) ≤ n) (sym (cells_placed at sh.left l)) (sh.left_is l)))
        (sh.left_says at l x some (tells.values l x (line_there (kept (key.Cell Msg l)) (more (key.Cell Msg l)) some (less_kept l)) said))

    -- and of what joined
    joined_values : (l x : ℤ) → 1 ≤ joined (key.Cell Msg l) → read.truth.value l ≡ Some x → (truth_of all).value l ≡ Some x
    joined_values l x some said =
        let here : 1 ≤ heap_of more_shares (key.Cell Plain l) = subst (λ (n : ℕ). 1 ≤ n) (sym (cells_placed AtPlain sh.joins l ∙ sh.joins_are l)) some in
        let there = line_there (heap_of more_shares (key.Cell Plain l)) (heap_of behind (key.Cell Plain l)) here
        (line_front (heap_of more_shares (key.Cell Plain l)) (heap_of behind (key.Cell Plain l)) (heap_of c.rest (key.Cell Plain l)) (inner.sum (key.Cell Plain l))) in
        outer.behind.agrees.value Plain l x there (inner.front.agrees.value Plain l x here
        (sh.joins_say l x some (tells.values l x (line_there (joined (key.Cell Msg l)) (more (key.Cell Msg l)) some (less_joined l)) said)))

    left_agrees : (k : Key) → 1 ≤ left k → AgreesAt read.truth (truth_of all) k
    left_agrees k some =
        at_then read.truth (truth_of thread) (truth_of all) k (agrees_at tells.agrees k (line_there (left k) (without Msg more k) some (line_less (left k) (added k) (without Msg more k) (parts k))))
        (at_then (truth_of thread) (truth_of c.rest) (truth_of all) k (agrees_at c.is.kept.agrees k (rest_there k some))
        (at_then (truth_of c.rest) (truth_of behind) (truth_of all) k (agrees_at inner.behind.agrees k (rest_there k some)) (agrees_at outer.behind.agrees k (behind_there k (rest_there k some)))))

    agrees : Agrees read.truth (truth_of all) (λ k. lifted Msg (rung_of at) kept k + (lifted Msg Plain joined k + left k))
    agrees = agrees_by (λ k. lifted Msg (rung_of at) kept k + (lifted Msg Plain joined k + left k)) (λ k some. elim (either (lifted Msg (rung_of at) kept k) (lifted Msg Plain joined k) (left k) some) [
      | inl here ↦ lifted_agrees read.truth (truth_of all) (rung_of at) kept own_values k here
      | inr others ↦ elim others [
        | inl here ↦ lifted_agrees read.truth (truth_of all) Plain joined joined_values k here
        | inr here ↦ left_agrees k here
      ]
    ])

    -- what was known before is, of the message where its atoms were put
    known_before : (d : Claim) → Needs left d → Knows read d → Knows (ground_of all) d
    known_before d needs known = elim (of_message_or d) [
      | inl m ↦ subst (λ (z : Claim). Knows (ground_of all) z) (sym m.1)
          (knows_front own behind (claim.IsInit Msg m.0) (sh.left_knows at Msg m.0 (at_msg at) (tells.given m.0 (subst (λ (z : Claim). Knows read z) m.1 known))))
      | inr other ↦
          knows_behind own behind d (knows_behind more_shares c.rest d (c.is.kept.knows.more d
          (needs_less left (heap_of c.rest) (λ k. line_first (left k) (under k) (heap_of c.rest k) (room k)) d needs) (tells.knows d other (needs_less left more less_left d needs) known)))
    ]
      where
        at_msg : (a : Level) → is_at a Msg ≡ true
        at_msg a = refl

    knows : (d : Claim) → Needs (λ k. lifted Msg (rung_of at) kept k + (lifted Msg Plain joined k + left k)) d → Knows (learning (rung_of at) read) d → Knows (ground_of all) d
    knows d needs known = elim (or_cases (learns (rung_of at) read d) (read.knows d) known) [
      | inl new ↦
          let is = learned_is (rung_of at) read d new in
          subst (λ (z : Claim). Knows (ground_of all) z) (sym is.1)
          (knows_front own behind (claim.IsInit (rung_of at) is.0) (sh.left_knows at (rung_of at) is.0 (at_rung at) (tells.given is.0 is.2)))
      | inr old ↦ known_before d (needs_left kept joined left (rung_of at) d needs) old
    ]
