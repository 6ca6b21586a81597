-- The text of an execution. Each line ends with a line feed, and its words stand behind single spaces.
use Rattle.std.specs.Prelude.{ℕ, suc, ℤ, Bool, true, false, List, [], ◌∷◌, ◌++◌, codes, Option, Some, None, if◌then◌else◌}
use Rattle.std.specs.Fmt.{decimal, signed_decimal}
use Rattle.std.specs.List.{list_any}
use Rattle.fsl_core.specs.declared.label.Ended.{Ended}
use Rattle.fsl_core.specs.declared.label.Label.{Label}
use Rattle.fsl_core.specs.declared.label.Label.TheVariants as label
use Rattle.fsl_core.specs.declared.mode.AllocKind.{AllocKind}
use Rattle.fsl_core.specs.declared.mode.AllocKind.TheVariants as kind
use Rattle.fsl_core.specs.declared.mode.Mode.{Mode}
use Rattle.fsl_core.specs.declared.mode.Mode.TheVariants as mode
use Rattle.fsl_graph.specs.declared.event.Event.{Event}
use Rattle.fsl_graph.specs.declared.graph.Graph.{Graph}
use Rattle.fsl_graph.specs.declared.graph.Order.{Order}
use Rattle.fsl_graph.specs.declared.graph.Thread.{Thread}
use Rattle.fsl_graph.specs.declared.ending.End.{End}
use Rattle.fsl_graph.specs.declared.ending.End.TheVariants as ends
use Rattle.fsl_graph.specs.declared.ending.LimitKind.{LimitKind}
use Rattle.fsl_graph.specs.declared.ending.LimitKind.TheVariants as limit

-- ---- words

abbrev pub mode_word : Mode → List ℕ
mode_word mode.Na = codes "na"
mode_word mode.Rlx = codes "rlx"
mode_word mode.Acq = codes "acq"
mode_word mode.Rel = codes "rel"
mode_word mode.AcqRel = codes "acqrel"

abbrev pub kind_word : AllocKind → List ℕ
kind_word kind.Na = codes "na"
kind_word kind.Acq = codes "acq"
kind_word kind.Rmw = codes "rmw"

abbrev pub limit_word : LimitKind → List ℕ
limit_word limit.Locations = codes "locations"
limit_word limit.Messages = codes "messages"
limit_word limit.Threads = codes "threads"

-- ---- lists in a line, each item behind a space

abbrev pub numbers : List ℕ → List ℕ
numbers [] = []
numbers (n ∷ ns) = codes " " ++ (decimal n ++ numbers ns)

abbrev pub integers : List ℤ → List ℕ
integers [] = []
integers (z ∷ zs) = codes " " ++ (signed_decimal z ++ integers zs)

-- `T=V`
abbrev pub results : List Ended → List ℕ
results [] = []
results (r ∷ rs) = codes " " ++ (decimal r.thread ++ (codes "=" ++ (signed_decimal r.value ++ results rs)))

-- ---- what an event did

abbrev pub source_text : Option ℕ → List ℕ
source_text None = codes " from none"
source_text (Some e) = codes " from " ++ decimal e

abbrev pub what : Label → Option ℕ → List ℕ
what (label.Alloc k l) from = codes "alloc " ++ (kind_word k ++ (codes " " ++ signed_decimal l))
what (label.Free l) from = codes "free " ++ signed_decimal l
what (label.Load m l v) from =
    codes "load " ++ (mode_word m ++ (codes " " ++ (signed_decimal l ++ (codes " " ++ (signed_decimal v ++ source_text from)))))
what (label.Store m l v) from =
    codes "store " ++ (mode_word m ++ (codes " " ++ (signed_decimal l ++ (codes " " ++ signed_decimal v))))
what (label.Rmw m l old new) from =
    codes "rmw " ++ (mode_word m ++ (codes " " ++ (signed_decimal l ++ (codes " " ++ (signed_decimal old ++ (codes " " ++
    (signed_decimal new ++ source_text from)))))))
what (label.Fence m) from = codes "fence " ++ mode_word m
what (label.Fork children) from = codes "fork" ++ numbers children
what (label.Join ended) from = codes "join" ++ results ended
what (label.Print v) from = codes "print " ++ signed_decimal v
what (label.End v) from = codes "end " ++ signed_decimal v

-- ---- lines

-- `event E thread T WHAT`
abbrev pub event_line : ℕ → Event → List ℕ
event_line e x =
    codes "event " ++ (decimal e ++ (codes " thread " ++ (decimal x.thread ++ (codes " " ++ (what x.label x.from ++ codes "\n")))))

-- events are numbered in list order
abbrev pub event_lines : ℕ → List Event → List ℕ
event_lines e [] = []
event_lines e (x ∷ xs) = event_line e x ++ event_lines (suc e) xs

-- `thread T proc P moves M args A1 A2`
abbrev pub thread_line : ℕ → Thread → List ℕ
thread_line t x =
    codes "thread " ++ (decimal t ++ (codes " proc " ++ (decimal x.proc ++ (codes " moves " ++ (decimal x.moves ++ (codes " args" ++
    (integers x.args ++ codes "\n")))))))

-- threads are numbered in list order
abbrev pub thread_lines : ℕ → List Thread → List ℕ
thread_lines t [] = []
thread_lines t (x ∷ xs) = thread_line t x ++ thread_lines (suc t) xs

-- `mo L: E1 E2`
abbrev pub order_line : Order → List ℕ
order_line o = codes "mo " ++ (signed_decimal o.loc ++ (codes ":" ++ (numbers o.writes ++ codes "\n")))

abbrev pub order_lines : List Order → List ℕ
order_lines [] = []
order_lines (o ∷ os) = order_line o ++ order_lines os

abbrev pub end_line : End → List ℕ
end_line ends.Finished = codes "end finished\n"
end_line ends.Spent = codes "end spent\n"
end_line (ends.Halted t) = codes "end halted " ++ (decimal t ++ codes "\n")
end_line (ends.Limit kind) = codes "end limit " ++ (limit_word kind ++ codes "\n")

-- ---- the whole

abbrev pub is_free : Label → Bool
is_free (label.Free l) = true
is_free _ = false

-- the version of the format: 2 where some event frees a location, else 1
abbrev pub version : List Event → ℕ
version events = if list_any (λ x. is_free x.label) events then 2 else 1

abbrev pub execution_text : Graph → End → List ℕ
execution_text g e =
    codes "execution " ++ (decimal (version g.events) ++ (codes "\n" ++ (end_line e ++ (thread_lines 0 g.threads ++
    (event_lines 0 g.events ++ (order_lines g.mo ++ codes "done\n"))))))
