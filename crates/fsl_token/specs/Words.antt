-- The fixed texts of the tokens: one of each reserved word and each symbol, none of names and numbers.
use Rattle.std.specs.Prelude.{ℕ, Bool, false, List, [], ◌∷◌, Option, Some, None, codes, nat_eq, length}
use Rattle.std.specs.List.{find, starts_with}
use Rattle.std.specs.Option.{unwrap_or}
use Rattle.std.specs.Str.{bytes_eq}
use Rattle.fsl_token.specs.declared.kind.TokenKind.{TokenKind}
use Rattle.fsl_token.specs.declared.kind.TokenKind.TheVariants as kind

abbrev pub fixed_text : TokenKind → Option (List ℕ)
fixed_text kind.Acq = Some (codes "acq")
fixed_text kind.AcqRel = Some (codes "acqrel")
fixed_text kind.Alloc = Some (codes "alloc")
fixed_text kind.Assert = Some (codes "assert")
fixed_text kind.Bank = Some (codes "bank")
fixed_text kind.Burn = Some (codes "burn")
fixed_text kind.Call = Some (codes "call")
fixed_text kind.Cas = Some (codes "cas")
fixed_text kind.Down = Some (codes "down")
fixed_text kind.Else = Some (codes "else")
fixed_text kind.Emp = Some (codes "emp")
fixed_text kind.Ensures = Some (codes "ensures")
fixed_text kind.Exchange = Some (codes "exchange")
fixed_text kind.False = Some (codes "false")
fixed_text kind.Fence = Some (codes "fence")
fixed_text kind.FetchAdd = Some (codes "fetch_add")
fixed_text kind.Free = Some (codes "free")
fixed_text kind.If = Some (codes "if")
fixed_text kind.Inv = Some (codes "inv")
fixed_text kind.Let = Some (codes "let")
fixed_text kind.Load = Some (codes "load")
fixed_text kind.Mint = Some (codes "mint")
fixed_text kind.Na = Some (codes "na")
fixed_text kind.Of = Some (codes "of")
fixed_text kind.Par = Some (codes "par")
fixed_text kind.Pred = Some (codes "pred")
fixed_text kind.Print = Some (codes "print")
fixed_text kind.Proc = Some (codes "proc")
fixed_text kind.Rel = Some (codes "rel")
fixed_text kind.Requires = Some (codes "requires")
fixed_text kind.ResultWord = Some (codes "result")
fixed_text kind.Return = Some (codes "return")
fixed_text kind.Rlx = Some (codes "rlx")
fixed_text kind.Rmw = Some (codes "rmw")
fixed_text kind.Store = Some (codes "store")
fixed_text kind.True = Some (codes "true")
fixed_text kind.Up = Some (codes "up")
fixed_text kind.While = Some (codes "while")
fixed_text kind.With = Some (codes "with")
fixed_text kind.AcqAssertion = Some (codes "Acq")
fixed_text kind.AuthAssertion = Some (codes "Auth")
fixed_text kind.InitAssertion = Some (codes "Init")
fixed_text kind.RelAssertion = Some (codes "Rel")
fixed_text kind.RmwAcqAssertion = Some (codes "RmwAcq")
fixed_text kind.TokAssertion = Some (codes "Tok")
fixed_text kind.Separate = Some (codes "&*&")
fixed_text kind.PointsTo = Some (codes "|->")
fixed_text kind.Equal = Some (codes "==")
fixed_text kind.NotEqual = Some (codes "!=")
fixed_text kind.AtMost = Some (codes "<=")
fixed_text kind.AtLeast = Some (codes ">=")
fixed_text kind.Less = Some (codes "<")
fixed_text kind.Greater = Some (codes ">")
fixed_text kind.Assign = Some (codes "=")
fixed_text kind.Plus = Some (codes "+")
fixed_text kind.Minus = Some (codes "-")
fixed_text kind.Star = Some (codes "*")
fixed_text kind.Question = Some (codes "?")
fixed_text kind.Underscore = Some (codes "_")
fixed_text kind.OpenParen = Some (codes "(")
fixed_text kind.CloseParen = Some (codes ")")
fixed_text kind.OpenBrace = Some (codes "{")
fixed_text kind.CloseBrace = Some (codes "}")
fixed_text kind.OpenBracket = Some (codes "[")
fixed_text kind.CloseBracket = Some (codes "]")
fixed_text kind.Comma = Some (codes ",")
fixed_text kind.Semicolon = Some (codes ";")
fixed_text kind.Name = None
fixed_text kind.Number = None

-- how many bytes the fixed text has
abbrev pub fixed_len : TokenKind → ℕ
fixed_len kind = length (unwrap_or (fixed_text kind) [])

-- the reserved words, and `_`, which alone is a symbol
abbrev pub words : List TokenKind
words =
    kind.Acq ∷ kind.AcqRel ∷ kind.Alloc ∷ kind.Assert ∷ kind.Bank ∷ kind.Burn ∷ kind.Call ∷ kind.Cas ∷ kind.Down ∷
    kind.Else ∷ kind.Emp ∷ kind.Ensures ∷ kind.Exchange ∷ kind.False ∷ kind.Fence ∷ kind.FetchAdd ∷ kind.Free ∷
    kind.If ∷ kind.Inv ∷ kind.Let ∷ kind.Load ∷ kind.Mint ∷ kind.Na ∷ kind.Of ∷ kind.Par ∷ kind.Pred ∷ kind.Print ∷
    kind.Proc ∷ kind.Rel ∷ kind.Requires ∷ kind.ResultWord ∷ kind.Return ∷ kind.Rlx ∷ kind.Rmw ∷ kind.Store ∷
    kind.True ∷ kind.Up ∷ kind.While ∷ kind.With ∷ kind.AcqAssertion ∷ kind.AuthAssertion ∷ kind.InitAssertion ∷
    kind.RelAssertion ∷ kind.RmwAcqAssertion ∷ kind.TokAssertion ∷ kind.Underscore ∷ []

-- the other symbols, the longest first
abbrev pub symbols : List TokenKind
symbols =
    kind.Separate ∷ kind.PointsTo ∷ kind.Equal ∷ kind.NotEqual ∷ kind.AtMost ∷ kind.AtLeast ∷ kind.Less ∷
    kind.Greater ∷ kind.Assign ∷ kind.Plus ∷ kind.Minus ∷ kind.Star ∷ kind.Question ∷ kind.OpenParen ∷
    kind.CloseParen ∷ kind.OpenBrace ∷ kind.CloseBrace ∷ kind.OpenBracket ∷ kind.CloseBracket ∷ kind.Comma ∷
    kind.Semicolon ∷ []

-- there is a fixed text, and it passes the test
abbrev pub fits : Option (List ℕ) → (List ℕ → Bool) → Bool
fits None test = false
fits (Some fixed) test = test fixed

-- the fixed text of the kind is just this text
abbrev pub is_text : List ℕ → TokenKind → Bool
is_text text kind = fits (fixed_text kind) (λ fixed. bytes_eq text fixed)

-- the fixed text of the kind begins this text
abbrev pub begins : List ℕ → TokenKind → Bool
begins text kind = fits (fixed_text kind) (λ fixed. starts_with nat_eq text fixed)

-- a name is of the kind that has its text, else it is a `Name`
abbrev pub word_kind : List ℕ → TokenKind
word_kind name = unwrap_or (find (is_text name) words) kind.Name

-- the longest symbol that begins the text
abbrev pub symbol_kind : List ℕ → Option TokenKind
symbol_kind text = find (begins text) symbols
