-- What a memory sink shows.
use Rattle.std.specs.Prelude.{ℕ, List}
use Rattle.dp_shell.specs.declared.memory_sink.MemorySink.{MemorySink}

-- the bytes taken
abbrev pub bytes_in : MemorySink → List ℕ
bytes_in sink = sink.bytes.items

-- how often a write has failed
abbrev pub faults_of : MemorySink → ℕ
faults_of sink = sink.failures

-- the numbers of the calls that fail
abbrev pub failing_calls : MemorySink → List ℕ
failing_calls sink = sink.failing.items

-- the number of the last call, 0 before the first
abbrev pub last_call : MemorySink → ℕ
last_call sink = sink.calls
