use Rattle.std.proofs.Common.{◌≡◌, take, map, string_bytes}
use Rattle.ferry_words.proofs.options.names_of.Given as goal

-- the words so far are copied
abbrev pub invariant-loop-word : goal.invariant-loop-word
invariant-loop-word l = l.names.items ≡ map string_bytes (take l.word-index l.words)
