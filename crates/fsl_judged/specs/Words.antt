-- Words that write programs out: expressions, conditions, assertions, statements, invariants and procedures.
use Rattle.std.specs.Prelude.{ℕ, ◌-◌, ◌^◌, true, false, List, pos, negsuc}
use Rattle.fsl_base.specs.declared.span.Span.{Span}
use Rattle.fsl_core.specs.declared.act.Act.{Act}
use Rattle.fsl_core.specs.declared.act.Act.TheOpen.{Act-F}
use Rattle.fsl_core.specs.declared.act.Act.TheViews.{roll-Act}
use Rattle.fsl_core.specs.declared.act.Called.{Called}
use Rattle.fsl_core.specs.declared.act.Step.{Step}
use Rattle.fsl_core.specs.declared.act.Stmt.{Stmt}
use Rattle.fsl_core.specs.declared.assertion.Asrt.{Asrt}
use Rattle.fsl_core.specs.declared.assertion.Asrt.TheOpen.{Asrt-F}
use Rattle.fsl_core.specs.declared.assertion.Asrt.TheViews.{roll-Asrt}
use Rattle.fsl_core.specs.declared.assertion.Inst.{Inst}
use Rattle.fsl_core.specs.declared.assertion.Pat.{Pat}
use Rattle.fsl_core.specs.declared.expr.Cond.{Cond}
use Rattle.fsl_core.specs.declared.expr.Cond.TheVariants as cond
use Rattle.fsl_core.specs.declared.expr.CmpOp.TheVariants as cmp_op
use Rattle.fsl_core.specs.declared.expr.Expr.{Expr}
use Rattle.fsl_core.specs.declared.expr.Expr.TheOpen.{Expr-F}
use Rattle.fsl_core.specs.declared.expr.Expr.TheViews.{roll-Expr}
use Rattle.fsl_core.specs.declared.expr.Part.{Part}
use Rattle.fsl_core.specs.declared.declaration.Inv.{Inv}
use Rattle.fsl_core.specs.declared.declaration.Proc.{Proc}
use Rattle.fsl_core.specs.Programs.{Program}

-- ---- expressions

abbrev pub Act-Layer : Type 0
Act-Layer = Act-F Act Stmt

abbrev pub num : ℕ → Expr
num n = roll-Expr (Expr-F.Const (pos n))

-- -n, where n is at least 1
abbrev pub minus_num : ℕ → Expr
minus_num n = roll-Expr (Expr-F.Const (negsuc (n - 1)))

abbrev pub var : ℕ → Expr
var slot = roll-Expr (Expr-F.Var slot)

abbrev pub result : Expr
result = roll-Expr Expr-F.Result_

abbrev pub plus : Expr → Part
plus e = record { minus = false; e = e }

abbrev pub minus : Expr → Part
minus e = record { minus = true; e = e }

abbrev pub negated : Expr → Expr
negated e = roll-Expr (Expr-F.Neg e)

abbrev pub sum : List Part → Expr
sum parts = roll-Expr (Expr-F.Sum parts)

abbrev pub product : List Expr → Expr
product factors = roll-Expr (Expr-F.Product factors)

abbrev pub all_shares : Expr
all_shares = num (2 ^ 63)

-- ---- conditions

abbrev pub equal : Expr → Expr → Cond
equal = cond.Cmp cmp_op.Eq

abbrev pub unequal : Expr → Expr → Cond
unequal = cond.Cmp cmp_op.Ne

abbrev pub less : Expr → Expr → Cond
less = cond.Cmp cmp_op.Lt

abbrev pub more : Expr → Expr → Cond
more = cond.Cmp cmp_op.Gt

abbrev pub at_most : Expr → Expr → Cond
at_most = cond.Cmp cmp_op.Le

abbrev pub at_least : Expr → Expr → Cond
at_least = cond.Cmp cmp_op.Ge

-- ---- assertions

abbrev pub inst : ℕ → List Expr → Inst
inst inv args = record { inv = inv; args = args }

abbrev pub nothing : Asrt
nothing = roll-Asrt Asrt-F.Emp

abbrev pub fact : Cond → Asrt
fact c = roll-Asrt (Asrt-F.Fact c)

abbrev pub points : Expr → Expr → Pat → Asrt
points at share pat = roll-Asrt (Asrt-F.Points at share pat)

abbrev pub init : Expr → Asrt
init at = roll-Asrt (Asrt-F.Init at)

abbrev pub rel : Expr → Inst → Asrt
rel at i = roll-Asrt (Asrt-F.Rel at i)

abbrev pub acq : Expr → Inst → ℕ → List Expr → Asrt
acq at i part out = roll-Asrt (Asrt-F.Acq at i part out)

abbrev pub rmw_acq : Expr → Inst → Asrt
rmw_acq at i = roll-Asrt (Asrt-F.RmwAcq at i)

abbrev pub tok : ℕ → Expr → Asrt
tok bank n = roll-Asrt (Asrt-F.Tok bank n)

abbrev pub auth : ℕ → Expr → Asrt
auth bank n = roll-Asrt (Asrt-F.Auth bank n)

abbrev pub choice : Cond → Asrt → Asrt → Asrt
choice c a b = roll-Asrt (Asrt-F.Choice c a b)

abbrev pub up : Asrt → Asrt
up a = roll-Asrt (Asrt-F.Up a)

abbrev pub down : Asrt → Asrt
down a = roll-Asrt (Asrt-F.Down a)

abbrev pub both : List Asrt → Asrt
both parts = roll-Asrt (Asrt-F.Both parts)

-- ---- statements

abbrev pub span : ℕ → ℕ → Span
span from to = record { from = from; to = to }

-- a statement at its place in the file, from a byte to a byte
abbrev pub at : ℕ → ℕ → Act-Layer → Stmt
at from to act = record { span = span from to; act = roll-Act act }

abbrev pub mint : ℕ → Expr → Step
mint bank n = record { mint = true; bank = bank; n = n }

abbrev pub burn : ℕ → Expr → Step
burn bank n = record { mint = false; bank = bank; n = n }

abbrev pub thread : ℕ → List Expr → Called
thread proc args = record { proc = proc; args = args }

-- ---- programs

-- its name, its parameters and slots in number, its parts
abbrev pub inv : List ℕ → ℕ → ℕ → List Asrt → Inv
inv name params slots parts = record { name = name; params = params; slots = slots; parts = parts }

-- its name, its parameters and slots in number, its banks, `requires`, `ensures`, its body and its closing brace
abbrev pub proc : List ℕ → ℕ → ℕ → List ℕ → Asrt → Asrt → List Stmt → Span → Proc
proc name params slots banks pre post body last =
    record { name = name; params = params; slots = slots; banks = banks; pre = pre; post = post; body = body; last = last }

abbrev pub program : List Inv → List Proc → Program
program invs procs = record { invs = invs; procs = procs }
