-- What standard output shows.
use Rattle.std.specs.Prelude.{ℕ}
use Rattle.dp_shell.specs.declared.std_sink.StdSink.{StdSink}

-- how often a write has failed
abbrev pub faults_of : {R : Type 0} → StdSink R → ℕ
faults_of sink = sink.faults
