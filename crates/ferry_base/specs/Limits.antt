-- The id of the manifest, and the sizes that a repository allows (BorgBackup 1.2, Internals, "Data structures and file formats").
use Rattle.std.specs.Prelude.{ℕ, List, replicate}

-- the id under which the manifest stands
abbrev pub zero_id : List ℕ
zero_id = replicate 32 0

-- the most bytes of an entry: 20 MiB
abbrev pub entry_limit : ℕ
entry_limit = 20971520

-- the most bytes of a blob: an entry without its head of 41 bytes
abbrev pub blob_limit : ℕ
blob_limit = 20971479

-- the most bytes of a content: a blob without its head of 43 bytes
abbrev pub content_limit : ℕ
content_limit = 20971436
