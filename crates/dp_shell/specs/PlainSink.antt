-- What a plain sink shows.
use Rattle.std.specs.Prelude.{ℕ, List}
use Rattle.dp_shell.specs.declared.plain_sink.PlainSink.{PlainSink}

-- the bytes taken
abbrev pub bytes_in : PlainSink → List ℕ
bytes_in sink = sink.bytes.items
