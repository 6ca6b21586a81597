-- Each kind of step keeps the rule, from any state that meets it.
use Rattle.std.proofs.Common.{◌≡◌, ◌≢◌, ℕ, zero, suc, ◌+◌, ◌%◌, ◌^◌, ◌<◌, ◌≤◌, min, List, [], ◌∷◌, ◌++◌, length, set, slice_index, slice_set, refl, sym, ap, subst, ◌∙◌, ⊎_elim, arith, length-append}
use mathlib.Core.Option.{some-ne-none, some-injective}
use mathlib.Core.Logic.{dite}
use native.Mathlib.Decide.{dec_lt, ℕ_discrete}
use Rattle.atomic_table.specs.Table.{keeps, Allows, Splits, Joins}
use Rattle.atomic_table.proofs.Lists.{at_set, at_snoc, set_else}
use Rattle.fsl_claim.specs.declared.view.View.{View}
use Rattle.fsl_claim.specs.declared.view.Plan.{Plan}
use Rattle.fsl_claim.specs.Views.{total, times, least_of, count_drawn, count_ended, count_passes, times_drawn, least_reported, Drawn}
use Rattle.fsl_claim.specs.Steps.{unused, drew, ended_once_more, looked, told, first_of_two, second_of_two, together, given_up, Draws, Looks, Reports, Settled, Settles}
use Rattle.fsl_claim.specs.Rule.{IsGivenUp, IsFine, Kept, Holds}
use Rattle.fsl_claim.proofs.Sums.{At, total_set, total_here, total_two, total_last, total_under, total_alone, lowest_most, lowest_here, lowest_set, lowest_same, lowest_kept, lowest_last, lowest_alone, times_append, least_most, least_append, one_at, one_below, one_more, one_at_other, below_where, none_below}

abbrev drawn_by : View → ℕ
drawn_by v = length v.drawn

abbrev ended_by : View → ℕ
ended_by v = v.ended

abbrev passes_of : View → ℕ
passes_of v = v.passes

abbrev least_by : ℕ → View → ℕ
least_by units v = least_of units v.reported

-- ---- the two words

next_word : (ws : List ℕ) (a b c d x : ℕ) → ws ≡ a ∷ b ∷ [] → x ≡ c → b ≡ d → slice_set ws 0 x ≡ c ∷ d ∷ []
next_word ws a b c d x is e f = ap (λ (us : List ℕ). set us 0 x) is ∙ ap (λ (y : ℕ). y ∷ b ∷ []) e ∙ ap (λ (y : ℕ). c ∷ y ∷ []) f

least_word : (ws : List ℕ) (a b c d x : ℕ) → ws ≡ a ∷ b ∷ [] → a ≡ c → x ≡ d → slice_set ws 1 x ≡ c ∷ d ∷ []
least_word ws a b c d x is e f = ap (λ (us : List ℕ). set us 1 x) is ∙ ap (λ (y : ℕ). y ∷ x ∷ []) e ∙ ap (λ (y : ℕ). c ∷ y ∷ []) f

same_words : (ws : List ℕ) (a b c d : ℕ) → ws ≡ a ∷ b ∷ [] → a ≡ c → b ≡ d → ws ≡ c ∷ d ∷ []
same_words ws a b c d is e f = is ∙ ap (λ (y : ℕ). y ∷ b ∷ []) e ∙ ap (λ (y : ℕ). c ∷ y ∷ []) f

word_0 : (ws : List ℕ) (a b : ℕ) → ws ≡ a ∷ b ∷ [] → slice_index ws 0 ≡ a
word_0 ws a b is = ap (λ (us : List ℕ). slice_index us 0) is

word_1 : (ws : List ℕ) (a b : ℕ) → ws ≡ a ∷ b ∷ [] → slice_index ws 1 ≡ b
word_1 ws a b is = ap (λ (us : List ℕ). slice_index us 1) is

-- ---- one view changes

set_at : (views : List View) (id : ℕ) (v w : View) → At views id v → At (set views id w) id w
set_at [] id v w at = absurd (some-ne-none v (sym at))
set_at (x ∷ xs) zero v w at = refl
set_at (x ∷ xs) (suc id) v w at = set_at xs id v w at

finer : (units crew low lower : ℕ) (v : View) → lower ≤ low → IsFine units crew low v → IsFine units crew lower v
finer units crew low lower v falls fine = (fine.0, λ live. let sound = fine.1 live in record { units = sound.units; workers = sound.workers; seen = (let seen = sound.seen in omega arith); ended = sound.ended; reported = sound.reported })

each_set : (units crew low lower : ℕ) (views : List View) (id : ℕ) (w : View) → lower ≤ low → ((i : ℕ) (v : View) → At views i v → IsFine units crew low v)
    → IsFine units crew lower w → (i : ℕ) (v : View) → At (set views id w) i v → IsFine units crew lower v
each_set units crew low lower views id w falls each mine i v at = ⊎_elim (λ (here : (i ≡ id) × (w ≡ v)). subst (IsFine units crew lower) here.1 mine)
    (λ (there : (i ≢ id) × At views i v). finer units crew low lower v falls (each i v there.1)) (at_set views id i w v at)

-- the numbers drawn stay as they are where one view's list of them does
drawn_same : (units : ℕ) (views : List View) (id : ℕ) (v w : View) → At views id v → w.drawn ≡ v.drawn → w.ended ≡ v.ended → Drawn units views → Drawn units (set views id w)
drawn_same units views id v w at numbers ends drawn =
    let many : length w.drawn ≡ length v.drawn = ap length numbers in
    let counts : count_drawn (set views id w) ≡ count_drawn views = let t = total_set drawn_by views id v w at in omega (arith, t, many) in
    let stops : count_ended (set views id w) ≡ count_ended views = let t = total_set ended_by views id v w at in omega (arith, t, ends) in
    record {
      once = λ x. let often : times x w.drawn ≡ times x v.drawn = ap (times x) numbers in let t = total_set (λ (u : View). times x u.drawn) views id v w at in
          let same : times_drawn x (set views id w) ≡ times_drawn x views = omega (arith, t, often) in same ∙ drawn.once x ∙ ap (one_below x) (sym counts);
      few = (let few = drawn.few in omega (arith, few, counts));
      full = λ some_ended. let full = drawn.full (omega (arith, stops, some_ended)) in omega (arith, full, counts);
    }

-- ---- draw

draws_number : (units crew : ℕ) (ws : List ℕ) (views : List View) (id : ℕ) (v : View) → Kept units crew ws views → At views id v → 0 < v.passes → slice_index ws 0 < units
    → Kept units crew (slice_set ws 0 ((slice_index ws 0 + 1) % 2 ^ 64)) (set views id (drew v (slice_index ws 0)))
draws_number units crew ws views id v kept at live below =
    let found : ℕ = slice_index ws 0 in
    let w : View = drew v found in
    let low : least_reported units (set views id w) ≡ least_reported units views = lowest_same (least_by units) units views id v w at refl in
    let is : found ≡ count_drawn views + count_ended views = word_0 ws _ _ kept.words_are in
    let few = kept.drawn.few in
    let small = kept.few_units in
    let open_ : count_ended views ≡ 0 = dite (dec_lt 0 (count_ended views)) (λ h. let full = kept.drawn.full h in absurd (omega (arith, full, is, below, h))) (λ h. omega (arith, h)) in
    let counts : count_drawn (set views id w) ≡ count_drawn views + 1 = let t = total_set drawn_by views id v w at in let more : length w.drawn ≡ length v.drawn + 1 = omega arith in omega (arith, t, more) in
    let stops : count_ended (set views id w) ≡ count_ended views = let t = total_set ended_by views id v w at in omega (arith, t) in
    let sound = (kept.each id v at).1 live in
    record {
      words_are = next_word ws _ _ _ _ _ kept.words_are (omega (arith, is, counts, stops, below, small)) (sym low);
      drawn = record {
        once = λ x. let t = total_set (λ (u : View). times x u.drawn) views id v w at in let before = kept.drawn.once x in let one = one_more x (count_drawn views) in
            let new : found ≡ count_drawn views = omega (arith, is, open_) in
            let hit : one_at x found ≡ one_at x (count_drawn views) = ap (one_at x) new in
            let all : times_drawn x (set views id w) ≡ one_below x (count_drawn views + 1) = omega (arith, t, before, one, hit) in
            all ∙ ap (one_below x) (sym counts);
        few = omega (arith, counts, is, below);
        full = λ some_ended. absurd (omega (arith, some_ended, stops, open_));
      };
      each = each_set units crew _ _ views id w (omega (arith, low)) kept.each (
        λ gone. absurd (omega (arith, gone, live)),
        λ _. record {
          units = sound.units;
          workers = sound.workers;
          seen = (let seen = sound.seen in omega (arith, seen, low));
          ended = sound.ended;
          reported = λ x h. let old = sound.reported x h in omega (arith, old);
        },
      );
      shared = (let t = total_set passes_of views id v w at in let shared = kept.shared in omega (arith, t, shared));
      few_units = kept.few_units;
      few_workers = kept.few_workers;
    }

draws_none : (units crew : ℕ) (ws : List ℕ) (views : List View) (id : ℕ) (v : View) → Kept units crew ws views → At views id v → v.ended < v.passes → units ≤ slice_index ws 0
    → Kept units crew (slice_set ws 0 ((slice_index ws 0 + 1) % 2 ^ 64)) (set views id (ended_once_more v))
draws_none units crew ws views id v kept at open_ above =
    let w : View = ended_once_more v in
    let low : least_reported units (set views id w) ≡ least_reported units views = lowest_same (least_by units) units views id v w at refl in
    let is : slice_index ws 0 ≡ count_drawn views + count_ended views = word_0 ws _ _ kept.words_are in
    let few = kept.drawn.few in
    let small = kept.few_units in
    let crowd = kept.few_workers in
    let shared = kept.shared in
    let live : 0 < v.passes = omega (arith, open_) in
    let sound = (kept.each id v at).1 live in
    let room : count_ended views ≤ count_passes views = total_under ended_by passes_of views (λ i u there. dite (dec_lt 0 u.passes) (λ h. ((kept.each i u there).1 h).ended) (λ h. let e = ((kept.each i u there).0 (omega (arith, h))).ended in omega (arith, e))) in
    let counts : count_drawn (set views id w) ≡ count_drawn views = let t = total_set drawn_by views id v w at in omega (arith, t) in
    let stops : count_ended (set views id w) ≡ count_ended views + 1 = let t = total_set ended_by views id v w at in omega (arith, t) in
    let all : count_drawn views ≡ units = dite (dec_lt 0 (count_ended views)) kept.drawn.full (λ h. omega (arith, h, is, above, few)) in
    record {
      words_are = next_word ws _ _ _ _ _ kept.words_are (omega (arith, is, counts, stops, few, small, crowd, shared, room)) (sym low);
      drawn = record {
        once = λ x. let t = total_set (λ (u : View). times x u.drawn) views id v w at in let same : times_drawn x (set views id w) ≡ times_drawn x views = omega (arith, t) in
            same ∙ kept.drawn.once x ∙ ap (one_below x) (sym counts);
        few = omega (arith, counts, few);
        full = λ _. counts ∙ all;
      };
      each = each_set units crew _ _ views id w (omega (arith, low)) kept.each (
        λ gone. absurd (omega (arith, gone, live)),
        λ _. record {
          units = sound.units;
          workers = sound.workers;
          seen = (let seen = sound.seen in omega (arith, seen, low));
          ended = omega (arith, open_);
          reported = sound.reported;
        },
      );
      shared = (let t = total_set passes_of views id v w at in omega (arith, t, shared));
      few_units = kept.few_units;
      few_workers = kept.few_workers;
    }

pub draws : {S : Type 0} (plan : Plan) (slots id : ℕ) (v : View) (c : List (ℕ × S)) → v.units ≡ plan.units → v.ended < v.passes
    → Allows (Holds plan) slots id (v, c) 0 (λ n. (n + 1) % 2 ^ 64) (Draws (v, c))
draws plan slots id v c fit open_ s kept long at small = dite (dec_lt (slice_index s.words 0) plan.units)
    (λ below. let live : 0 < v.passes = omega (arith, open_) in let is = word_0 s.words _ _ kept.words_are in let here = total_here drawn_by s.views id v at in (
      drew v (slice_index s.words 0),
      keeps,
      tt,
      draws_number _ _ _ _ id v kept at live below,
      (refl, omega (arith, is, here, below, fit), (λ _. refl), (λ above. absurd (omega (arith, above, below, fit)))),
    ))
    (λ above. let few = kept.drawn.few in let here = total_here drawn_by s.views id v at in let past : plan.units ≤ slice_index s.words 0 = omega (arith, above) in (
      ended_once_more v,
      keeps,
      tt,
      draws_none _ _ _ _ id v kept at open_ past,
      (refl, omega (arith, few, here, fit), (λ below. absurd (omega (arith, below, past, fit))), (λ _. refl)),
    ))

-- ---- a look, with any view that has the same numbers, and a report

looks_on : (units crew : ℕ) (ws : List ℕ) (views : List View) (id : ℕ) (v w : View) → Kept units crew ws views → At views id v → 0 < v.passes
    → w.units ≡ v.units → w.workers ≡ v.workers → w.drawn ≡ v.drawn → w.reported ≡ v.reported → w.ended ≡ v.ended → w.passes ≡ v.passes → least_reported units views ≤ w.seen
    → Kept units crew (slice_set ws 1 (slice_index ws 1)) (set views id w)
looks_on units crew ws views id v w kept at live as_many as_wide numbers told_ ends as_passes seen =
    let low : least_reported units (set views id w) ≡ least_reported units views = lowest_same (least_by units) units views id v w at (ap (least_of units) told_) in
    let is : slice_index ws 1 ≡ least_reported units views = word_1 ws _ _ kept.words_are in
    let many : length w.drawn ≡ length v.drawn = ap length numbers in
    let counts : count_drawn (set views id w) ≡ count_drawn views = let t = total_set drawn_by views id v w at in omega (arith, t, many) in
    let stops : count_ended (set views id w) ≡ count_ended views = let t = total_set ended_by views id v w at in omega (arith, t, ends) in
    let sound = (kept.each id v at).1 live in
    record {
      words_are = least_word ws _ _ _ _ _ kept.words_are (omega (arith, counts, stops)) (is ∙ sym low);
      drawn = drawn_same units views id v w at numbers ends kept.drawn;
      each = each_set units crew _ _ views id w (omega (arith, low)) kept.each (
        λ gone. absurd (omega (arith, gone, live, as_passes)),
        λ _. record {
          units = as_many ∙ sound.units;
          workers = as_wide ∙ sound.workers;
          seen = omega (arith, seen, low);
          ended = (let ended = sound.ended in omega (arith, ended, ends, as_passes));
          reported = λ x h. let here : times x w.reported ≡ times x v.reported = ap (times x) told_ in let there : times x w.drawn ≡ times x v.drawn = ap (times x) numbers in
              let old = sound.reported x (omega (arith, h, here)) in omega (arith, old, there);
        },
      );
      shared = (let t = total_set passes_of views id v w at in let shared = kept.shared in omega (arith, t, shared, as_passes));
      few_units = kept.few_units;
      few_workers = kept.few_workers;
    }

pub looks : {S : Type 0} (plan : Plan) (slots id : ℕ) (v : View) (c : List (ℕ × S)) → v.units ≡ plan.units → 0 < v.passes
    → Allows (Holds plan) slots id (v, c) 1 (λ n. n) (Looks (v, c))
looks plan slots id v c fit live s kept long at small =
    let is = word_1 s.words _ _ kept.words_are in let sound = (kept.each id v at).1 live in let seen = sound.seen in let top = lowest_most (least_by plan.units) plan.units s.views in (
      looked v (slice_index s.words 1),
      keeps,
      tt,
      looks_on _ _ _ _ id v (looked v (slice_index s.words 1)) kept at live refl refl refl refl refl refl (omega (arith, is)),
      (refl, omega (arith, is, seen), omega (arith, is, top, fit)),
    )

told_drawn : (unit : ℕ) (v : View) → ((x : ℕ) → 0 < times x v.reported → 0 < times x v.drawn) → 0 < times unit v.drawn → (x : ℕ) → 0 < times x (unit ∷ v.reported) → 0 < times x v.drawn
told_drawn unit v old mine x h = dite (ℕ_discrete x unit) (λ e. subst (λ (y : ℕ). 0 < times y v.drawn) (sym e) mine)
    (λ apart. old x (let miss : one_at x unit ≡ 0 = one_at_other x unit apart in omega (arith, h, miss)))

tells_number : (units crew : ℕ) (ws : List ℕ) (views : List View) (id : ℕ) (v : View) (unit : ℕ) → Kept units crew ws views → At views id v → 0 < v.passes → 0 < times unit v.drawn
    → Kept units crew (slice_set ws 1 (min (slice_index ws 1) unit)) (set views id (told v unit))
tells_number units crew ws views id v unit kept at live mine =
    let w : View = told v unit in
    let low : least_reported units (set views id w) ≡ min (least_by units w) (least_reported units views) = lowest_set (least_by units) units views id v w at (omega arith) in
    let here : least_reported units views ≤ least_by units v = lowest_here (least_by units) units views id v at in
    let is : slice_index ws 1 ≡ least_reported units views = word_1 ws _ _ kept.words_are in
    let counts : count_drawn (set views id w) ≡ count_drawn views = let t = total_set drawn_by views id v w at in omega (arith, t) in
    let stops : count_ended (set views id w) ≡ count_ended views = let t = total_set ended_by views id v w at in omega (arith, t) in
    let sound = (kept.each id v at).1 live in
    let lower : least_reported units (set views id w) ≤ least_reported units views = omega (arith, low) in
    record {
      words_are = least_word ws _ _ _ _ _ kept.words_are (omega (arith, counts, stops)) (omega (arith, is, low, here));
      drawn = drawn_same units views id v w at refl refl kept.drawn;
      each = each_set units crew _ _ views id w lower kept.each (
        λ gone. absurd (omega (arith, gone, live)),
        λ _. record {
          units = sound.units;
          workers = sound.workers;
          seen = (let seen = sound.seen in omega (arith, seen, low, here));
          ended = sound.ended;
          reported = told_drawn unit v sound.reported mine;
        },
      );
      shared = (let t = total_set passes_of views id v w at in let shared = kept.shared in omega (arith, t, shared));
      few_units = kept.few_units;
      few_workers = kept.few_workers;
    }

pub tells : {S : Type 0} (plan : Plan) (slots id : ℕ) (v : View) (c : List (ℕ × S)) (unit : ℕ) → 0 < v.passes → 0 < times unit v.drawn
    → Allows (Holds plan) slots id (v, c) 1 (λ n. min n unit) (λ _. Reports unit (v, c))
tells plan slots id v c unit live mine s kept long at small = (told v unit, keeps, tt, tells_number _ _ _ _ id v unit kept at live mine, refl)

-- ---- the last look

others_given_up : (units crew : ℕ) (ws : List ℕ) (views : List View) (id : ℕ) (v : View) → Kept units crew ws views → At views id v → v.passes ≡ crew
    → (j : ℕ) (u : View) → j ≢ id → At views j u → IsGivenUp u
others_given_up units crew ws views id v kept at all j u apart there = (kept.each j u there).0 (let both = total_two passes_of views id j v u at there apart in let shared = kept.shared in omega (arith, both, shared, all))

settled : (units crew : ℕ) (ws : List ℕ) (views : List View) (id : ℕ) (v : View) → Kept units crew ws views → At views id v → 0 < v.passes → v.passes ≡ crew → Settled units v (slice_index ws 1)
settled units crew ws views id v kept at live all =
    let gone = others_given_up units crew ws views id v kept at all in
    let is : slice_index ws 1 ≡ least_reported units views = word_1 ws _ _ kept.words_are in
    let low : least_reported units views ≡ min (least_by units v) units = lowest_alone (least_by units) units views id v at
    (λ j u apart there. let e : least_of units u.reported ≡ units = ap (least_of units) (gone j u apart there).reported in omega (arith, e)) in
    let top = least_most units v.reported in
    let sound = (kept.each id v at).1 live in
    let counts : count_drawn views ≡ length v.drawn = total_alone drawn_by views id v at (λ j u apart there. ap length (gone j u apart there).drawn) in
    let stops : count_ended views ≡ v.ended = total_alone ended_by views id v at (λ j u apart there. (gone j u apart there).ended) in
    let often : (x : ℕ) → times_drawn x views ≡ times x v.drawn = λ x. total_alone (λ (u : View). times x u.drawn) views id v at (λ j u apart there. ap (times x) (gone j u apart there).drawn) in
    record {
      least = omega (arith, is, low, top);
      at_most = omega (arith, is, low);
      seen = (let seen = sound.seen in omega (arith, seen, is));
      drawn = record {
        once = λ x. let one : count_drawn views ≡ count_drawn (v ∷ []) = omega (arith, counts) in let o = often x in
            let alone : times_drawn x (v ∷ []) ≡ times_drawn x views = omega (arith, o) in alone ∙ kept.drawn.once x ∙ ap (one_below x) one;
        few = (let few = kept.drawn.few in omega (arith, few, counts));
        full = λ some_ended. let full = kept.drawn.full (omega (arith, some_ended, stops)) in omega (arith, full, counts);
      };
      within = λ x h. let drawn = sound.reported x h in let o = often x in let once = kept.drawn.once x in let few = kept.drawn.few in
          let one = below_where x (count_drawn views) (omega (arith, drawn, o, once)) in omega (arith, one, few);
    }

pub settles : {S : Type 0} (plan : Plan) (slots id : ℕ) (v : View) (c : List (ℕ × S)) → v.units ≡ plan.units → 0 < v.passes → v.passes ≡ plan.workers
    → Allows (Holds plan) slots id (v, c) 1 (λ n. n) (Settles (v, c))
settles plan slots id v c fit live all s kept long at small = let sound = (kept.each id v at).1 live in (
  v,
  keeps,
  tt,
  looks_on _ _ _ _ id v v kept at live refl refl refl refl refl refl sound.seen,
  (refl, subst (λ (n : ℕ). Settled n v (slice_index s.words 1)) (sym fit) (settled _ _ _ _ id v kept at live all)),
)

-- ---- one pass made two

splits_kept : (units crew : ℕ) (ws : List ℕ) (views : List View) (id : ℕ) (v : View) → Kept units crew ws views → At views id v → 1 < v.passes → v.ended ≡ 0
    → Kept units crew ws (set views id (first_of_two v) ++ second_of_two v ∷ [])
splits_kept units crew ws views id v kept at two none_ended =
    let w : View = first_of_two v in let u : View = second_of_two v in let mid : List View = set views id w in let after : List View = mid ++ u ∷ [] in
    let live : 0 < v.passes = omega (arith, two) in
    let sound = (kept.each id v at).1 live in
    let fit = sound.units in
    let top = lowest_most (least_by units) units views in
    let low_mid : least_reported units mid ≡ least_reported units views = lowest_same (least_by units) units views id v w at refl in
    let low : least_reported units after ≡ least_reported units views = let t = lowest_last (least_by units) units mid u in omega (arith, t, low_mid, top) in
    let counts : count_drawn after ≡ count_drawn views = let s = total_last drawn_by mid u in let t = total_set drawn_by views id v w at in omega (arith, s, t) in
    let stops : count_ended after ≡ count_ended views = let s = total_last ended_by mid u in let t = total_set ended_by views id v w at in omega (arith, s, t) in
    record {
      words_are = same_words ws _ _ _ _ kept.words_are (omega (arith, counts, stops)) (sym low);
      drawn = record {
        once = λ x. let s = total_last (λ (z : View). times x z.drawn) mid u in let t = total_set (λ (z : View). times x z.drawn) views id v w at in
            let same : times_drawn x after ≡ times_drawn x views = omega (arith, s, t) in same ∙ kept.drawn.once x ∙ ap (one_below x) (sym counts);
        few = (let few = kept.drawn.few in omega (arith, few, counts));
        full = λ some_ended. let full = kept.drawn.full (omega (arith, stops, some_ended)) in omega (arith, full, counts);
      };
      each = λ i z there. ⊎_elim
          (λ (old : At mid i z). each_set units crew _ _ views id w (omega (arith, low)) kept.each (
            λ gone. absurd (omega (arith, gone, two)),
            λ _. record {
              units = sound.units;
              workers = sound.workers;
              seen = (let seen = sound.seen in omega (arith, seen, low));
              ended = omega (arith, none_ended);
              reported = sound.reported;
            },
          ) i z old)
          (λ (new : u ≡ z). subst (IsFine units crew (least_reported units after)) new (
            λ gone. absurd (omega (arith, gone)),
            λ _. record {
              units = sound.units;
              workers = sound.workers;
              seen = omega (arith, low, top, fit);
              ended = omega arith;
              reported = λ x h. absurd (omega (arith, h));
            },
          ))
          (at_snoc mid u z i there);
      shared = (let s = total_last passes_of mid u in let t = total_set passes_of views id v w at in let shared = kept.shared in omega (arith, s, t, shared, two));
      few_units = kept.few_units;
      few_workers = kept.few_workers;
    }

pub splits : {S : Type 0} (plan : Plan) (id : ℕ) (v : View) → 1 < v.passes → v.ended ≡ 0 → Splits {S = S} (Holds plan) id v (first_of_two v) (second_of_two v)
splits plan id v two none_ended s kept at = splits_kept _ _ _ _ id v kept at two none_ended

-- ---- two passes made one

joins_kept : (units crew : ℕ) (ws : List ℕ) (views : List View) (id : ℕ) (v : View) (other : ℕ) (w : View) → Kept units crew ws views → At views id v → other ≢ id → At views other w → 0 < v.passes → 0 < w.passes
    → Kept units crew ws (set (set views id (together v w)) other given_up)
joins_kept units crew ws views id v other w kept at apart there live live_too =
    let both : View = together v w in let mid : List View = set views id both in let after : List View = set mid other given_up in
    let there_mid : At mid other w = set_else views id other both apart ∙ there in
    let here_mid : At mid id both = set_at views id v both at in
    let first = (kept.each id v at).1 live in
    let second = (kept.each other w there).1 live_too in
    let sums : (f : View → ℕ) → f both ≡ f v + f w → f given_up ≡ 0 → total f after ≡ total f views = λ f adds none_. let s = total_set f mid other w given_up there_mid in let t = total_set f views id v both at in omega (arith, s, t, adds, none_) in
    let counts : count_drawn after ≡ count_drawn views = sums drawn_by (length-append v.drawn w.drawn) refl in
    let stops : count_ended after ≡ count_ended views = sums ended_by refl refl in
    let lesser : least_by units both ≡ min (least_by units v) (least_by units w) = least_append units v.reported w.reported in
    let here = lowest_here (least_by units) units views id v at in
    let here_too = lowest_here (least_by units) units views other w there in
    let low_mid : least_reported units mid ≡ least_reported units views = let t = lowest_set (least_by units) units views id v both at (omega (arith, lesser)) in omega (arith, t, lesser, here, here_too) in
    let low : least_reported units after ≡ least_reported units views = lowest_kept (least_by units) units mid other id w given_up both there_mid here_mid (λ e. apart (sym e)) (omega (arith, lesser)) (omega arith) ∙ low_mid in
    record {
      words_are = same_words ws _ _ _ _ kept.words_are (omega (arith, counts, stops)) (sym low);
      drawn = record {
        once = λ x. sums (λ (z : View). times x z.drawn) (times_append x v.drawn w.drawn) refl ∙ kept.drawn.once x ∙ ap (one_below x) (sym counts);
        few = (let few = kept.drawn.few in omega (arith, few, counts));
        full = λ some_ended. let full = kept.drawn.full (omega (arith, stops, some_ended)) in omega (arith, full, counts);
      };
      each = each_set units crew (least_reported units mid) (least_reported units after) mid other given_up (omega (arith, low, low_mid))
          (each_set units crew (least_reported units views) (least_reported units mid) views id both (omega (arith, low_mid)) kept.each (
            λ gone. absurd (omega (arith, gone, live)),
            λ _. record {
              units = first.units;
              workers = first.workers;
              seen = (let s = first.seen in let t = second.seen in omega (arith, s, t, low_mid));
              ended = (let s = first.ended in let t = second.ended in omega (arith, s, t));
              reported = λ x h. let p = times_append x v.reported w.reported in let q = times_append x v.drawn w.drawn in
                  dite (dec_lt 0 (times x v.reported)) (λ h1. let r = first.reported x h1 in omega (arith, q, r)) (λ h0. let r = second.reported x (omega (arith, p, h, h0)) in omega (arith, q, r));
            },
          ))
          (λ _. record { drawn = refl; reported = refl; ended = refl }, λ some_pass. absurd (omega (arith, some_pass)));
      shared = sums passes_of refl refl ∙ kept.shared;
      few_units = kept.few_units;
      few_workers = kept.few_workers;
    }

pub joins : {S : Type 0} (plan : Plan) (id : ℕ) (v : View) (other : ℕ) (w : View) → 0 < v.passes → 0 < w.passes → Joins {S = S} (Holds plan) id v other w (together v w) given_up
joins plan id v other w live live_too s kept at apart there = joins_kept _ _ _ _ id v other w kept at apart (sym (set_else s.views id other (together v w) apart) ∙ there) live live_too

-- ---- the start

first_fine : (units crew : ℕ) → 0 < crew → (i : ℕ) (v : View) → At (unused units crew crew ∷ []) i v → IsFine units crew (least_reported units (unused units crew crew ∷ [])) v
first_fine units crew some_worker zero v at = subst (IsFine units crew (least_reported units (unused units crew crew ∷ []))) (some-injective (unused units crew crew) v at)
    (λ gone. absurd (omega (arith, gone, some_worker)), λ _. record { units = refl; workers = refl; seen = omega arith; ended = omega arith; reported = λ x h. absurd (omega (arith, h)) })
first_fine units crew some_worker (suc i) v at = absurd (some-ne-none v (sym at))

pub opens : (units crew : ℕ) → 0 < crew → units < 2 ^ 32 → crew < 2 ^ 32 → Kept units crew (0 ∷ units ∷ []) (unused units crew crew ∷ [])
opens units crew some_worker small crowd = record {
  words_are = ap (λ (n : ℕ). 0 ∷ n ∷ []) (let e : units ≡ min units units = omega arith in e);
  drawn = record { once = λ x. none_below x; few = omega arith; full = λ some_ended. absurd (omega (arith, some_ended)) };
  each = first_fine units crew some_worker;
  shared = omega arith;
  few_units = small;
  few_workers = crowd;
}
