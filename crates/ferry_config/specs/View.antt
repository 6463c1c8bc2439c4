-- What contracts see of the lines that the reader keeps.
use Rattle.ferry_config.specs.Line as spec
use Rattle.ferry_config.specs.declared.line.Line.{Line}
use Rattle.ferry_config.specs.declared.line.Line.TheVariants.{Passed, Header, Continued, Assigned, Formless}

-- a line, without where its texts lie in memory
abbrev pub line_view : Line → spec.Line
line_view Passed = spec.passed
line_view (Header name) = spec.header name.now
line_view (Continued piece) = spec.continued piece.now
line_view (Assigned name value) = spec.assigned name.now value.now
line_view Formless = spec.formless
