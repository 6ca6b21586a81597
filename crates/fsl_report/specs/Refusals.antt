-- The texts of refusals. Each ends with a line feed.
use Rattle.std.specs.Prelude.{ℕ, List, ◌++◌, codes}
use Rattle.std.specs.Fmt.{decimal}
use Rattle.fsl_token.specs.declared.places.Place.{Place}
use Rattle.fsl_token.specs.Places.{place_at}
use Rattle.fsl_types.specs.declared.fault.TypeKind.{TypeKind}
use Rattle.fsl_types.specs.declared.fault.TypeKind.TheVariants as type_kinds
use Rattle.fsl_report.specs.declared.refused.BadToken.{BadToken}
use Rattle.fsl_report.specs.declared.refused.BadToken.TheVariants as bad_tokens
use Rattle.fsl_report.specs.declared.refused.Refused.{Refused}
use Rattle.fsl_report.specs.declared.refused.Refused.TheVariants as refusals

-- `refused WHAT LINE:COL`
abbrev pub placed_text : List ℕ → Place → List ℕ
placed_text what place =
    codes "refused " ++ (what ++ (codes " " ++ (decimal place.line ++ (codes ":" ++ (decimal place.col ++ codes "\n")))))

-- `refused WHAT LINE:COL WORD`
abbrev pub worded_text : List ℕ → Place → List ℕ → List ℕ
worded_text what place word =
    codes "refused " ++ (what ++ (codes " " ++ (decimal place.line ++ (codes ":" ++ (decimal place.col ++ (codes " " ++
    (word ++ codes "\n")))))))

abbrev pub token_word : BadToken → List ℕ
token_word bad_tokens.Char = codes "char"
token_word bad_tokens.Number = codes "number"
token_word bad_tokens.Name = codes "name"

abbrev pub type_word : TypeKind → List ℕ
type_word type_kinds.Unknown = codes "unknown"
type_word type_kinds.Twice = codes "twice"
type_word type_kinds.Type_ = codes "type"
type_word type_kinds.Arity = codes "arity"
type_word type_kinds.Modal = codes "modal"
type_word type_kinds.Parts = codes "parts"
type_word type_kinds.Count = codes "count"
type_word type_kinds.NoMain = codes "nomain"

-- the text of a refusal: of bytes that are no text, the length of their longest prefix that is UTF-8
abbrev pub refused_text : List ℕ → Refused → List ℕ
refused_text bytes refusals.Size = codes "refused size\n"
refused_text bytes (refusals.Text at) = codes "refused text at " ++ (decimal at ++ codes "\n")
refused_text bytes (refusals.Token bad at) = worded_text (codes "token") (place_at bytes at) (token_word bad)
refused_text bytes (refusals.Syntax place) = placed_text (codes "syntax") (place_at bytes place.from)
refused_text bytes (refusals.Deep place) = placed_text (codes "deep") (place_at bytes place.from)
refused_text bytes (refusals.Types kind place) = worded_text (codes "type") (place_at bytes place.from) (type_word kind)
refused_text bytes refusals.Form = codes "refused form\n"
