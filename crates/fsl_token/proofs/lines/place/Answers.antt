use Rattle.std.proofs.Common.{◌≡◌, [], drop, sym, ap, ◌∙◌}
use Rattle.std.proofs.Math.ListN.{drop_of_length-le}
use Rattle.fsl_token.specs.Places.{walk_bytes}
use Rattle.fsl_token.proofs.Counting.{bytes_place}
use Rattle.fsl_token.proofs.lines.place.Goals as goal

-- no bytes are left to count
pub returns-clause-by_characters : goal.returns-clause-by_characters
returns-clause-by_characters c = λ text begins.
    let done : drop c.loop-byte.byte-index c.first-byte-items.result.now ≡ [] = drop_of_length-le c.first-byte-items.result.now c.loop-byte-test.false in
    ap (walk_bytes (record { line = c.loop-byte.line; col = c.loop-byte.col })) (sym done) ∙ c.loop-byte.invariant.so_far ∙ bytes_place c.args.bytes.now c.args.at text begins
