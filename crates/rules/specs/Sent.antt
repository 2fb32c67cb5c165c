-- Outputs in six places, as a reply has them: "An accepted call has at most 6 outputs." Assumes nothing.
use Rattle.std.specs.Prelude.{◌+◌, List, ◌++◌, length, take, replicate, set, Option, Some, None}
use Rattle.rules.specs.declared.Output.{Output}
use Rattle.rules.specs.declared.Sent.{Sent}
use Rattle.rules.specs.Doing.{output}

-- the output in a place that none has come to
abbrev pub no_output : Output
no_output = output 0 0 0 0

-- up to six outputs; places past them hold zeros
abbrev pub six : List Output → List Output
six os = take 6 (os ++ replicate 6 no_output)

abbrev pub packed : List Output → Sent
packed os = record { count = length os; list = six os }

-- with one output more, where there is one
abbrev pub with_output : Option Output → Sent → Sent
with_output None s = s
with_output (Some o) s = record { count = s.count + 1; list = set s.list s.count o }
