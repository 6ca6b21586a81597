use Rattle.std.proofs.Common.{◌≡◌, ◌++◌, drop}
use Rattle.fsl_exec_text.specs.Texts.{order_lines}
use Rattle.fsl_exec_text.proofs.text.push_orders.Given as goal

-- what is written, and what is left to be written, are the whole
abbrev pub invariant-loop-order : goal.invariant-loop-order
invariant-loop-order l = l.text ++ order_lines (drop l.order-index l.orders) ≡ l.initial.text ++ order_lines l.orders
