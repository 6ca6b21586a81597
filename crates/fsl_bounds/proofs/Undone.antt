-- The edges of a mark stay what they are while edges are added behind it.
use Rattle.std.proofs.Common.{◌≡◌, ℕ, suc, ◌-◌, ◌≤◌, List, [], ◌∷◌, ◌++◌, length, Option, ℤ, take, drop, reverse, refl, ap, sym, subst, ◌∙◌, arith}
use Rattle.std.proofs.Math.Seq.{drop-append_seam}
use Rattle.std.proofs.lemmas.List.{reverse-append, length-reverse, length-drop, take-append-drop}
use Rattle.fsl_lin.specs.declared.edge.Edge.{Edge}
use Rattle.fsl_bounds.specs.declared.mark.Mark.{Mark}
use Rattle.fsl_bounds.specs.Matrix.{IsMatrix}
use Rattle.fsl_bounds.specs.Marks.{at_mark, at_marks, AreMarks, AreBounds}

pub at_mark_more : (e : Edge) (es : List Edge) (m : Mark) → m.edges ≤ length es → at_mark (e ∷ es) m ≡ at_mark es m
at_mark_more e es m h =
    let n : length (e ∷ es) - m.edges ≡ suc (length es - m.edges) = omega arith in
    ap (λ (k : ℕ). drop k (e ∷ es)) n

pub at_marks_more : (e : Edge) (es : List Edge) (ms : List Mark) → AreMarks es ms → at_marks (e ∷ es) ms ≡ at_marks es ms
at_marks_more e es [] h = refl
at_marks_more e es (m ∷ ms) h = ap (λ (k : List Edge). k ∷ at_marks k ms) (at_mark_more e es m h.0)

pub are_marks_more : (e : Edge) (es : List Edge) (ms : List Mark) → AreMarks es ms → AreMarks (e ∷ es) ms
are_marks_more e es [] h = tt
are_marks_more e es (m ∷ ms) h = (
  let l = h.0 in omega arith,
  subst (λ (k : List Edge). IsMatrix k m.rows.items) (sym (at_mark_more e es m h.0)) h.1,
  subst (λ (k : List Edge). AreMarks k ms) (sym (at_mark_more e es m h.0)) h.2,
)

pub reverse_pushed : {X : Type 0} (xs : List X) (x : X) → reverse (xs ++ x ∷ []) ≡ x ∷ reverse xs
reverse_pushed xs x = reverse-append xs (x ∷ [])

-- one more edge, with its rows
pub bounds_pushed : (edges more : List Edge) (rows after : List (List (Option ℤ))) (marks : List Mark) (e : Edge)
    → AreBounds edges rows marks → more ≡ edges ++ e ∷ [] → IsMatrix (e ∷ reverse edges) after → AreBounds more after marks
bounds_pushed edges more rows after marks e h pushed m =
    let r : reverse more ≡ e ∷ reverse edges = ap reverse pushed ∙ reverse_pushed edges e in
    record {
      matrix = subst (λ (es : List Edge). IsMatrix es after) (sym r) m;
      marked = subst (λ (es : List Edge). AreMarks es (reverse marks)) (sym r) (are_marks_more e (reverse edges) (reverse marks) h.marked);
    }

pub marks_pushed : (edges more : List Edge) (rows : List (List (Option ℤ))) (marks : List Mark) (e : Edge)
    → AreBounds edges rows marks → more ≡ edges ++ e ∷ [] → at_marks (reverse more) (reverse marks) ≡ at_marks (reverse edges) (reverse marks)
marks_pushed edges more rows marks e h pushed =
    ap (λ (es : List Edge). at_marks (reverse es) (reverse marks)) pushed
    ∙ ap (λ (es : List Edge). at_marks es (reverse marks)) (reverse_pushed edges e)
    ∙ at_marks_more e (reverse edges) (reverse marks) h.marked

reverse_take : (k : ℕ) (xs : List Edge) → reverse (take k xs) ≡ drop (length (reverse xs) - k) (reverse xs)
reverse_take k xs =
    let parts : reverse xs ≡ reverse (drop k xs) ++ reverse (take k xs) =
    ap reverse (sym (take-append-drop k xs)) ∙ reverse-append (take k xs) (drop k xs) in
    let size : length (reverse xs) - k ≡ length (reverse (drop k xs)) =
    omega (arith, length-reverse xs, length-reverse (drop k xs), length-drop k xs) in
    sym (ap (λ (n : ℕ). drop n (reverse xs)) size ∙ ap (λ (ys : List Edge). drop (length (reverse (drop k xs))) ys) parts
    ∙ drop-append_seam (reverse (drop k xs)) (reverse (take k xs)))

-- what the newest mark says
newest : (edges : List Edge) (rows : List (List (Option ℤ))) (marks rest : List Mark) (m : Mark)
    → AreBounds edges rows marks → marks ≡ rest ++ m ∷ [] → AreMarks (reverse edges) (m ∷ reverse rest)
newest edges rows marks rest m h popped =
    subst (λ (ms : List Mark). AreMarks (reverse edges) ms) (ap reverse popped ∙ reverse_pushed rest m) h.marked

pub bounds_undone : (edges kept : List Edge) (rows : List (List (Option ℤ))) (marks rest : List Mark) (m : Mark)
    → AreBounds edges rows marks → marks ≡ rest ++ m ∷ [] → kept ≡ take m.edges edges → AreBounds kept m.rows.items rest
bounds_undone edges kept rows marks rest m h popped cut =
    let n = newest edges rows marks rest m h popped in
    let r : at_mark (reverse edges) m ≡ reverse kept = sym (ap reverse cut ∙ reverse_take m.edges edges) in
    record {
      matrix = subst (λ (es : List Edge). IsMatrix es m.rows.items) r n.1;
      marked = subst (λ (es : List Edge). AreMarks es (reverse rest)) r n.2;
    }

pub marks_undone : (edges kept : List Edge) (marks rest : List Mark) (m : Mark) → marks ≡ rest ++ m ∷ [] → kept ≡ take m.edges edges
    → at_marks (reverse edges) (reverse marks) ≡ reverse kept ∷ at_marks (reverse kept) (reverse rest)
marks_undone edges kept marks rest m popped cut =
    let r : at_mark (reverse edges) m ≡ reverse kept = sym (ap reverse cut ∙ reverse_take m.edges edges) in
    ap (λ (ms : List Mark). at_marks (reverse edges) (reverse ms)) popped
    ∙ ap (λ (ms : List Mark). at_marks (reverse edges) ms) (reverse_pushed rest m)
    ∙ ap (λ (es : List Edge). es ∷ at_marks es (reverse rest)) r
