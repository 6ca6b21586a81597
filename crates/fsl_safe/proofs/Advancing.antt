-- A thread makes its local moves up to its next event, or to its end.
use Rattle.std.proofs.Common.{◌≡◌, ◌≤◌, ◌<◌, ℕ, zero, suc, ◌⊎◌, inl, inr, List, [], ◌∷◌, map, Option, Some, None, ℤ, refl, sym, ap, subst, ◌∙◌, arith}
use Rattle.std.proofs.lemmas.Bool.{cases_order}
use Rattle.fsl_core.specs.declared.need.Need.{Need}
use Rattle.fsl_core.specs.declared.need.Need.TheVariants as need
use Rattle.fsl_core.specs.declared.need.Reply.{Reply}
use Rattle.fsl_core.specs.declared.need.Reply.TheVariants as reply
use Rattle.fsl_core.specs.declared.label.Label.{Label}
use Rattle.fsl_core.specs.Programs.{Program}
use Rattle.fsl_core.specs.Moves.{Config, failed, showing, moved, need_of}
use Rattle.fsl_graph.specs.declared.event.Event.{Event}
use Rattle.fsl_graph.specs.declared.graph.Graph.{Graph}
use Rattle.fsl_graph.specs.Events.{Is}
use Rattle.fsl_graph.specs.Sequenced.{In}
use Rattle.fsl_graph.specs.Execution.{Runs, Answers, reply_of}
use Rattle.fsl_graph.specs.Execution.Runs.{stands, silent, shows}
use Rattle.fsl_graph.specs.Keeping.{children_of}
use Rattle.fsl_graph.specs.Positions.{Holder}
use Rattle.fsl_graph.specs.Positions.{Holder as holder}
use Rattle.fsl_graph.proofs.Keeping.{local_keeps_children}
use Rattle.fsl_own.specs.Owning.{World, Known, KeepsDeals}
use Rattle.fsl_ground.specs.Ground.{Ground}
use Rattle.fsl_ground.proofs.Ground.{same_agrees}
use Rattle.fsl_good.specs.Pieces.{Piece, Fits}
use Rattle.fsl_good.specs.Good.{Logic, Good}
use Rattle.fsl_good.specs.Keeping.{Keeps}
use Rattle.fsl_good.proofs.Pieces.{fits_possible}
use Rattle.fsl_good.proofs.Shifting.{shifts_keep, keeps_then}

-- a thread that is about to show its next event
pub record Reached (l : Logic) (p : Program) (g : Graph) (done : List ℕ) (k : Known) (w : World) (t e : ℕ) (x : Event) (o : l.Owed) (owed : ℕ → l.Owed) (children rest : List ℕ) (last : Config) : Type 0 where
  pub known : Known
  pub world : World
  pub ground : Ground l.asks g done [] known world
  pub deals : KeepsDeals k known
  pub others : (h : Holder) → (h ≡ holder.Plain t → ⊥) → Keeps k known w world h
  pub config : Config
  pub moves : ℕ
  pub next : Config
  pub shows : moved p config (reply_of x.label) ≡ showing x.label next
  pub answers : Answers g (need_of p config) x.label
  pub runs : Runs p g next moves rest last
  pub waits : children_of config ≡ children
  pub pieces : List Piece
  pub fits : Fits g done known world t pieces
  pub good : Good l p o (suc moves) config (map owed (children_of config)) pieces

pub same_keeps : (k : Known) (w : World) (h : Holder) → Keeps k k w w h
same_keeps k w h = record { grows = λ r. omega arith; agree = λ r o. same_agrees k r }

pub advance : (l : Logic) (p : Program) (g : Graph) (done : List ℕ) (t e : ℕ) (x : Event) (o : l.Owed) (owed : ℕ → l.Owed) (rest : List ℕ) (last c : Config) (n : ℕ) (es : List ℕ) → Runs p g c n es last
    → es ≡ e ∷ rest → Is g e x → (k : Known) (w : World) (pieces : List Piece) → Ground l.asks g done [] k w → Fits g done k w t pieces → Good l p o n c (map owed (children_of c)) pieces
    → Reached l p g done k w t e x o owed (children_of c) rest last
advance l p g done t e x o owed rest last c n es stands s is k w pieces ground fits good = absurd (let f : [] ≡ e ∷ rest = s in cc)
advance l p g done t e x o owed rest last c n es (silent {n = m} local r) s is k w pieces ground fits good =
    let possible = fits_possible g done k w t pieces ground.owned fits in
    let children = local_keeps_children p c local in
    let changed = shifts_keep l.asks g done [] t (Good l p o m (moved p c reply.Nothing).config (map owed (children_of c))) k w pieces ((good possible).1 local) ground fits in
    let none : children_of c ≡ children_of (moved p c reply.Nothing).config = children.0 ∙ sym children.1 in
    let go = advance l p g done t e x o owed rest last (moved p c reply.Nothing).config m es r s is changed.known changed.world changed.pieces changed.ground changed.fits
    (subst (λ (xs : List ℕ). Good l p o m (moved p c reply.Nothing).config (map owed xs) changed.pieces) none changed.next) in
    record {
      known = go.known;
      world = go.world;
      ground = go.ground;
      deals = λ j d q. go.deals j d (changed.deals j d q);
      others = λ h f. keeps_then k changed.known go.known w changed.world go.world h (changed.others h f) (go.others h f);
      config = go.config;
      moves = go.moves;
      next = go.next;
      shows = go.shows;
      answers = go.answers;
      runs = go.runs;
      waits = go.waits ∙ sym none;
      pieces = go.pieces;
      fits = go.fits;
      good = go.good;
    }
advance l p g done t e x o owed rest last c n es (shows {next = next} {n = m} {e = d} {es = more} y at moves answers r) s is k w pieces ground fits good =
    let here : d ≡ e = cc in
    let left : more ≡ rest = cc in
    let f : Some y ≡ Some x = sym (subst (λ (z : ℕ). Is g z y) here at) ∙ is in
    let same : y ≡ x = cc in
    record {
      known = k;
      world = w;
      ground = ground;
      deals = λ j d q. q;
      others = λ h f. same_keeps k w h;
      config = c;
      moves = m;
      next = next;
      shows = subst (λ (z : Event). moved p c (reply_of z.label) ≡ showing z.label next) same moves;
      answers = subst (λ (z : Event). Answers g (need_of p c) z.label) same answers;
      runs = subst (λ (zs : List ℕ). Runs p g next m zs last) left r;
      waits = refl;
      pieces = pieces;
      fits = fits;
      good = good;
    }

-- a thread without events fails never
pub never_fails : (l : Logic) (p : Program) (g : Graph) (done : List ℕ) (t : ℕ) (o : l.Owed) (owed : ℕ → l.Owed) (last c : Config) (n : ℕ) (es : List ℕ) → Runs p g c n es last → es ≡ []
    → (k : Known) (w : World) (pieces : List Piece) → Ground l.asks g done [] k w → Fits g done k w t pieces → Good l p o n c (map owed (children_of c)) pieces → last ≡ failed → ⊥
never_fails l p g done t o owed last c n es stands s k w pieces ground fits good bad = good bad
never_fails l p g done t o owed last c n es (silent {n = m} local r) s k w pieces ground fits good bad =
    let possible = fits_possible g done k w t pieces ground.owned fits in
    let children = local_keeps_children p c local in
    let changed = shifts_keep l.asks g done [] t (Good l p o m (moved p c reply.Nothing).config (map owed (children_of c))) k w pieces ((good possible).1 local) ground fits in
    let none : children_of c ≡ children_of (moved p c reply.Nothing).config = children.0 ∙ sym children.1 in
    never_fails l p g done t o owed last (moved p c reply.Nothing).config m es r s changed.known changed.world changed.pieces changed.ground changed.fits
    (subst (λ (xs : List ℕ). Good l p o m (moved p c reply.Nothing).config (map owed xs) changed.pieces) none changed.next) bad
never_fails l p g done t o owed last c n es (shows {e = d} {es = more} y at moves answers r) s k w pieces ground fits good bad = absurd (let f : d ∷ more ≡ [] = s in cc)
