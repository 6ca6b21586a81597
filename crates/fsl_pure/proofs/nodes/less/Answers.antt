use Rattle.std.proofs.Common.{◌^◌, ◌-ℤ◌, lit<}
use Rattle.std.specs.Int.{w128}
use Rattle.std.proofs.lemmas.Int.{to_z-of_z}
use Rattle.fsl_lin.specs.Sizes.{IsSize}
use Rattle.fsl_lin.proofs.Sizes.{size_within, size_difference, size_fits}
use Rattle.fsl_pure.proofs.nodes.less.Goals as goal

pub returns-clause-value : goal.returns-clause-value
returns-clause-value c =
    let x = c.args.whole.now in
    let y = c.args.first.now in
    let z = c.args.second.now in
    let first : IsSize (2 ^ 91) (x -ℤ y) = size_difference (2 ^ 90) (2 ^ 90) (2 ^ 91) x y (size_within (2 ^ 90) x c.requires.whole) (size_within (2 ^ 90) y c.requires.first) (lit< tt) in
    let both : IsSize (2 ^ 92) ((x -ℤ y) -ℤ z) = size_difference (2 ^ 91) (2 ^ 90) (2 ^ 92) (x -ℤ y) z first c.requires.second (lit< tt) in
    rw (to_z-of_z w128 x (size_fits (2 ^ 90) x (size_within (2 ^ 90) x c.requires.whole) (lit< tt)), to_z-of_z w128 y (size_fits (2 ^ 90) y (size_within (2 ^ 90) y c.requires.first) (lit< tt)), to_z-of_z w128 z (size_fits (2 ^ 90) z c.requires.second (lit< tt)), to_z-of_z w128 (x -ℤ y) (size_fits (2 ^ 91) (x -ℤ y) first (lit< tt)))
    (to_z-of_z w128 ((x -ℤ y) -ℤ z) (size_fits (2 ^ 92) ((x -ℤ y) -ℤ z) both (lit< tt)))

pub returns-clause-size : goal.returns-clause-size
returns-clause-size c =
    let x = c.args.whole.now in
    let y = c.args.first.now in
    let z = c.args.second.now in
    let first : IsSize (2 ^ 91) (x -ℤ y) = size_difference (2 ^ 90) (2 ^ 90) (2 ^ 91) x y (size_within (2 ^ 90) x c.requires.whole) (size_within (2 ^ 90) y c.requires.first) (lit< tt) in
    rw (returns-clause-value c) (size_difference (2 ^ 91) (2 ^ 90) (2 ^ 92) (x -ℤ y) z first c.requires.second (lit< tt))
