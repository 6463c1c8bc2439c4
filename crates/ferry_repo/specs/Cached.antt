-- What a repository keeps in memory: the contents that it opened last, twenty-eight at most, and notes of contents that were cut.
use Rattle.std.specs.Prelude.{ℕ, if◌then◌else◌, List, [], ◌∷◌, take, Option, IsSome}
use Rattle.std.specs.Map.{lookup}
use Rattle.std.specs.Str.{bytes_eq}
use Rattle.ferry_repo.specs.declared.notes.Note.{Note}

-- ids with their contents, the one that was used last at the front
abbrev pub Opened : Type 0
Opened = List (List ℕ × List ℕ)

-- notes, each with the id of its first chunk
abbrev pub Noted : Type 0
Noted = List (List ℕ × Note)

-- contents that were opened, and notes
pub record Contents : Type 0 where
  pub opened : Opened
  pub noted : Noted

abbrev pub no_contents : Contents
no_contents = record { opened = []; noted = [] }

-- the content that is kept of an id, none where none is
abbrev pub content_in : List ℕ → Opened → Option (List ℕ)
content_in id cached = lookup (bytes_eq id) cached

-- The content of this id is kept.
abbrev pub IsCached : List ℕ → Opened → Type 0
IsCached id cached = IsSome (content_in id cached)

-- all contents but those of this id
unfoldable pub without : List ℕ → Opened → Opened
without id [] = []
without id (c ∷ cached) = if bytes_eq id c.0 then without id cached else c ∷ without id cached

-- the contents after this one was used, of this id: it stands at the front, and twenty-eight stay
unfoldable pub used : List ℕ → List ℕ → Opened → Opened
used id content cached = take 28 ((id, content) ∷ without id cached)
