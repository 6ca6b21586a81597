use Rattle.std.proofs.Common.{◌≡◌, ◌≤◌, true, length}
use Rattle.std.specs.Io.KnownBytes.{Consumes}
use Rattle.fsl_base.specs.Outside.{raised}
use Rattle.fsl_base.proofs.reading.read_all.Given as goal

-- the list holds what the pulls gave so far
abbrev pub invariant-loop-turn : goal.invariant-loop-turn
invariant-loop-turn g l = record {
  begun : g.S.Shelf.begun l.shelf ≡ true;
  content : g.S.Shelf.content l.shelf ≡ g.S.Shelf.content l.initial.shelf;
  later : g.S.Shelf.faults l.initial.shelf ≤ g.S.Shelf.faults l.shelf;
  so_far : Consumes (g.S.Shelf.left l.initial.shelf) (g.S.Shelf.left l.shelf) l.all;
  given : raised (g.S.Shelf.given l.shelf) 0 ≡ raised (g.S.Shelf.given l.initial.shelf) (length l.all);
  within : length l.all ≤ l.limit;
  turns : l._turn ≤ length l.all;
  room : length l.piece ≡ 4096;
}
