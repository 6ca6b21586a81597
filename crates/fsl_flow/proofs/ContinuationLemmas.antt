-- Lists whose last item is the first; and the innermost frame of a continuation, as it is taken off.
use Rattle.std.proofs.Common.{◌≡◌, List, [], ◌∷◌, ◌++◌, map, reverse, refl, ap, ◌∙◌, true, sym}
use Rattle.std.proofs.lemmas.List.{map-append, reverse-append}
use Rattle.fsl_flow.specs.Continuation.{from_last, Frame, frame_of, Leaving}
use Rattle.std.specs.List.{list_all}
use Rattle.std.proofs.lemmas.Bool.{and_parts}
use Rattle.fsl_core.specs.logic.States.{State}
use Rattle.fsl_flow.specs.declared.job.Job.{Job}
use Rattle.fsl_flow.specs.declared.continuation.Frame as framing
use Rattle.fsl_flow.specs.Next.{next_from}
use Rattle.fsl_flow.specs.Paths.{is_supported_frame}

pub none_first : {X Y : Type 0} (f : X → Y) → from_last f [] ≡ []
unfolding from_last
none_first f = refl

pub last_first : {X Y : Type 0} (f : X → Y) (xs : List X) (x : X) → from_last f (xs ++ x ∷ []) ≡ f x ∷ from_last f xs
unfolding from_last
last_first f xs x = ap reverse (map-append f xs (x ∷ [])) ∙ reverse-append (map f xs) (f x ∷ [])

taken : (frames more : List framing.Frame) (last : framing.Frame) → frames ≡ more ++ last ∷ []
    → from_last frame_of frames ≡ frame_of last ∷ from_last frame_of more
taken frames more last e = ap (from_last frame_of) e ∙ last_first frame_of more last

pub next_taken : (job : Job) (s : State) (frames more : List framing.Frame) (last : framing.Frame) (frame : Frame) (leaving : Leaving) → frames ≡ more ++ last ∷ []
    → frame_of last ≡ frame
    → next_from job s (from_last frame_of frames) leaving ≡ next_from job s (frame ∷ from_last frame_of more) leaving
next_taken job s frames more last frame leaving e f =
    ap (λ (frames : List Frame). next_from job s frames leaving) (taken frames more last e)
    ∙ ap (λ (x : Frame). next_from job s (x ∷ from_last frame_of more) leaving) f

pub last_supported : (frames more : List framing.Frame) (last : framing.Frame) (frame : Frame) → frames ≡ more ++ last ∷ [] → frame_of last ≡ frame
    → list_all is_supported_frame (from_last frame_of frames) ≡ true → is_supported_frame frame ≡ true
last_supported frames more last frame e f h =
    let parts = and_parts (is_supported_frame (frame_of last)) (list_all is_supported_frame (from_last frame_of more))
    (ap (list_all is_supported_frame) (sym (taken frames more last e)) ∙ h) in
    ap is_supported_frame (sym f) ∙ parts.0
