-- Lemmas on specs/Archives.antt and specs/Whole.antt: records and the contents of items, of which one answer holds, and one alone.
use Rattle.std.proofs.Common.{◌≡◌, ◌⊎◌, inl, inr, ℕ, ◌==◌, Bool, true, false, List, [], ◌∷◌, ◌++◌, length, Option, Some, None, Result, Ok, Err}
use Rattle.std.proofs.Common.{refl, sym, ◌∙◌, ap, arith}
use Rattle.std.proofs.lemmas.Bool.Decides.{nat_tests}
use Rattle.ferry_disk.specs.Files.{Files}
use Rattle.ferry_item.specs.Stream.{joined}
use Rattle.ferry_item.specs.declared.item.ChunkRef.{ChunkRef}
use Rattle.ferry_log.specs.State.{LogState, FitsFiles}
use Rattle.ferry_mac.specs.declared.keys.Keys.{Keys}
use Rattle.ferry_manifest.specs.Record.Text.{ArchiveText, archive_of}
use Rattle.ferry_manifest.specs.declared.fault.MetaFault.{MetaFault}
use Rattle.ferry_repo.specs.Archives.{HoldsRecord, BreaksRecord, RefusesRecord, HoldsContent, MissesSize, RefusesContent}
use Rattle.ferry_repo.specs.Fault.{IsOfFiles}
use Rattle.ferry_repo.specs.Objects.{HoldsChunk, RefusesChunk}
use Rattle.ferry_repo.specs.Archives.{ContentsCome, HoldsJoined, RefusesJoined}
use Rattle.ferry_repo.specs.declared.fault.RepoFault.{RepoFault}
use Rattle.ferry_repo.specs.declared.fault.RepoFault.TheVariants as Fault
use Rattle.ferry_repo.proofs.LawLemmas.{some_chunk, one_chunk, chunk_apart, one_chunk_fault}

-- ---- records

-- a record that is refused is refused as its chunk is, or breaks a rule
record_cases : (files : Files) (log : LogState) (keys : Keys) (id : List ℕ) (fault : RepoFault) → RefusesRecord files log keys id fault
    → ((f : MetaFault) × (fault ≡ Fault.Archive id f) × BreaksRecord files log keys id f) ⊎ RefusesChunk files log keys id fault
record_cases files log keys id (Fault.Archive named f) h = inl (f, ap (λ (n : List ℕ). Fault.Archive n f) h.0, h.1)
record_cases files log keys id Fault.NoCommit h = inr h
record_cases files log keys id (Fault.Damaged segment at) h = inr h
record_cases files log keys id (Fault.Config f) h = inr h
record_cases files log keys id (Fault.Key f) h = inr h
record_cases files log keys id (Fault.Missing named) h = inr h
record_cases files log keys id (Fault.Blob named f) h = inr h
record_cases files log keys id (Fault.Manifest f) h = inr h
record_cases files log keys id (Fault.Item named f) h = inr h
record_cases files log keys id (Fault.Size named) h = inr h
record_cases files log keys id (Fault.KeyFile f) h = inr h
record_cases files log keys id (Fault.Other a b) h = inr h
record_cases files log keys id Fault.NoKey h = inr h
record_cases files log keys id Fault.Device h = inr h
record_cases files log keys id Fault.Memory h = inr h

record_refuses : (files : Files) (log : LogState) (keys : Keys) (id : List ℕ) (fault : RepoFault) → RefusesChunk files log keys id fault
    → RefusesRecord files log keys id fault
record_refuses files log keys id (Fault.Archive named f) h = absurd h
record_refuses files log keys id Fault.NoCommit h = h
record_refuses files log keys id (Fault.Damaged segment at) h = h
record_refuses files log keys id (Fault.Config f) h = h
record_refuses files log keys id (Fault.Key f) h = h
record_refuses files log keys id (Fault.Missing named) h = h
record_refuses files log keys id (Fault.Blob named f) h = h
record_refuses files log keys id (Fault.Manifest f) h = h
record_refuses files log keys id (Fault.Item named f) h = h
record_refuses files log keys id (Fault.Size named) h = h
record_refuses files log keys id (Fault.KeyFile f) h = h
record_refuses files log keys id (Fault.Other a b) h = h
record_refuses files log keys id Fault.NoKey h = h
record_refuses files log keys id Fault.Device h = h
record_refuses files log keys id Fault.Memory h = h

record_read : (files : Files) (log : LogState) (keys : Keys) (id content : List ℕ) (answer : Result ArchiveText MetaFault)
    → HoldsChunk files log keys id content → archive_of keys content ≡ answer
    → ((archive : ArchiveText) × HoldsRecord files log keys id archive) ⊎ ((fault : RepoFault) × IsOfFiles fault × RefusesRecord files log keys id fault)
record_read files log keys id content (Ok archive) holds is = inl (archive, record { content = content; chunk = holds; record_is = is })
record_read files log keys id content (Err fault) holds is =
    inr (Fault.Archive id fault, tt, (refl, record { content = content; chunk = holds; record_is = is }))

record_answer : (files : Files) (log : LogState) (keys : Keys) (id : List ℕ)
    → ((content : List ℕ) × HoldsChunk files log keys id content) ⊎ ((fault : RepoFault) × IsOfFiles fault × RefusesChunk files log keys id fault)
    → ((archive : ArchiveText) × HoldsRecord files log keys id archive) ⊎ ((fault : RepoFault) × IsOfFiles fault × RefusesRecord files log keys id fault)
record_answer files log keys id (inl holds) = record_read files log keys id holds.0 (archive_of keys holds.0) holds.1 refl
record_answer files log keys id (inr refuses) = inr (refuses.0, refuses.1, record_refuses files log keys id refuses.0 refuses.2)

pub some_record : (files : Files) (log : LogState) (keys : Keys) (id : List ℕ) → FitsFiles files log
    → ((archive : ArchiveText) × HoldsRecord files log keys id archive) ⊎ ((fault : RepoFault) × IsOfFiles fault × RefusesRecord files log keys id fault)
some_record files log keys id fits = record_answer files log keys id (some_chunk files log keys id fits)

pub one_record : (files : Files) (log : LogState) (keys : Keys) (id : List ℕ) (a b : ArchiveText) → HoldsRecord files log keys id a
    → HoldsRecord files log keys id b → a ≡ b
one_record files log keys id a b ha hb =
    let same = one_chunk files log keys id ha.content hb.content ha.chunk hb.chunk in
    let both : Ok a ≡ Ok b = sym ha.record_is ∙ ap (archive_of keys) same ∙ hb.record_is in
    cc

not_read : (files : Files) (log : LogState) (keys : Keys) (id : List ℕ) (archive : ArchiveText) (fault : MetaFault) → HoldsRecord files log keys id archive
    → BreaksRecord files log keys id fault → ⊥
not_read files log keys id archive fault holds breaks =
    let same = one_chunk files log keys id holds.content breaks.content holds.chunk breaks.chunk in
    let both : Ok archive ≡ Err fault = sym holds.record_is ∙ ap (archive_of keys) same ∙ breaks.record_is in
    cc

apart_by : (files : Files) (log : LogState) (keys : Keys) (id : List ℕ) (archive : ArchiveText) (fault : RepoFault) → HoldsRecord files log keys id archive
    → IsOfFiles fault
    → ((f : MetaFault) × (fault ≡ Fault.Archive id f) × BreaksRecord files log keys id f) ⊎ RefusesChunk files log keys id fault → ⊥
apart_by files log keys id archive fault holds of_files (inl breaks) = not_read files log keys id archive breaks.0 holds breaks.2
apart_by files log keys id archive fault holds of_files (inr refuses) = chunk_apart files log keys id holds.content fault holds.chunk of_files refuses

pub record_apart : (files : Files) (log : LogState) (keys : Keys) (id : List ℕ) (archive : ArchiveText) (fault : RepoFault)
    → HoldsRecord files log keys id archive → IsOfFiles fault → RefusesRecord files log keys id fault → ⊥
record_apart files log keys id archive fault holds of_files refuses =
    apart_by files log keys id archive fault holds of_files (record_cases files log keys id fault refuses)

one_broken : (files : Files) (log : LogState) (keys : Keys) (id : List ℕ) (f g : MetaFault) → BreaksRecord files log keys id f
    → BreaksRecord files log keys id g → f ≡ g
one_broken files log keys id f g hf hg =
    let same = one_chunk files log keys id hf.content hg.content hf.chunk hg.chunk in
    let both : Err f ≡ Err g = sym hf.record_is ∙ ap (archive_of keys) same ∙ hg.record_is in
    cc

one_by : (files : Files) (log : LogState) (keys : Keys) (id : List ℕ) (f g : RepoFault) → IsOfFiles f → IsOfFiles g
    → ((m : MetaFault) × (f ≡ Fault.Archive id m) × BreaksRecord files log keys id m) ⊎ RefusesChunk files log keys id f
    → ((m : MetaFault) × (g ≡ Fault.Archive id m) × BreaksRecord files log keys id m) ⊎ RefusesChunk files log keys id g → f ≡ g
one_by files log keys id f g of_f of_g (inl bf) (inl bg) =
    bf.1 ∙ ap (λ (m : MetaFault). Fault.Archive id m) (one_broken files log keys id bf.0 bg.0 bf.2 bg.2) ∙ sym bg.1
one_by files log keys id f g of_f of_g (inl bf) (inr rg) = absurd (chunk_apart files log keys id bf.2.content g bf.2.chunk of_g rg)
one_by files log keys id f g of_f of_g (inr rf) (inl bg) = absurd (chunk_apart files log keys id bg.2.content f bg.2.chunk of_f rf)
one_by files log keys id f g of_f of_g (inr rf) (inr rg) = one_chunk_fault files log keys id f g of_f of_g rf rg

pub one_record_fault : (files : Files) (log : LogState) (keys : Keys) (id : List ℕ) (f g : RepoFault) → IsOfFiles f → IsOfFiles g
    → RefusesRecord files log keys id f → RefusesRecord files log keys id g → f ≡ g
one_record_fault files log keys id f g of_f of_g hf hg =
    one_by files log keys id f g of_f of_g (record_cases files log keys id f hf) (record_cases files log keys id g hg)

-- ---- one chunk of an item

-- a chunk of an item that is refused is refused as a chunk is, or has another size
content_cases : (files : Files) (log : LogState) (keys : Keys) (chunk : ChunkRef) (fault : RepoFault) → RefusesContent files log keys chunk fault
    → ((fault ≡ Fault.Size chunk.id) × MissesSize files log keys chunk) ⊎ RefusesChunk files log keys chunk.id fault
content_cases files log keys chunk (Fault.Size named) h = inl (ap Fault.Size h.0, h.1)
content_cases files log keys chunk Fault.NoCommit h = inr h
content_cases files log keys chunk (Fault.Damaged segment at) h = inr h
content_cases files log keys chunk (Fault.Config f) h = inr h
content_cases files log keys chunk (Fault.Key f) h = inr h
content_cases files log keys chunk (Fault.Missing named) h = inr h
content_cases files log keys chunk (Fault.Blob named f) h = inr h
content_cases files log keys chunk (Fault.Manifest f) h = inr h
content_cases files log keys chunk (Fault.Archive named f) h = inr h
content_cases files log keys chunk (Fault.Item named f) h = inr h
content_cases files log keys chunk (Fault.KeyFile f) h = inr h
content_cases files log keys chunk (Fault.Other a b) h = inr h
content_cases files log keys chunk Fault.NoKey h = inr h
content_cases files log keys chunk Fault.Device h = inr h
content_cases files log keys chunk Fault.Memory h = inr h

content_refuses : (files : Files) (log : LogState) (keys : Keys) (chunk : ChunkRef) (fault : RepoFault) → RefusesChunk files log keys chunk.id fault
    → RefusesContent files log keys chunk fault
content_refuses files log keys chunk (Fault.Size named) h = absurd h
content_refuses files log keys chunk Fault.NoCommit h = h
content_refuses files log keys chunk (Fault.Damaged segment at) h = h
content_refuses files log keys chunk (Fault.Config f) h = h
content_refuses files log keys chunk (Fault.Key f) h = h
content_refuses files log keys chunk (Fault.Missing named) h = h
content_refuses files log keys chunk (Fault.Blob named f) h = h
content_refuses files log keys chunk (Fault.Manifest f) h = h
content_refuses files log keys chunk (Fault.Archive named f) h = h
content_refuses files log keys chunk (Fault.Item named f) h = h
content_refuses files log keys chunk (Fault.KeyFile f) h = h
content_refuses files log keys chunk (Fault.Other a b) h = h
content_refuses files log keys chunk Fault.NoKey h = h
content_refuses files log keys chunk Fault.Device h = h
content_refuses files log keys chunk Fault.Memory h = h

abbrev SomeContent : Files → LogState → Keys → ChunkRef → Type 0
SomeContent files log keys chunk = ((content : List ℕ) × HoldsContent files log keys chunk content)
    ⊎ ((fault : RepoFault) × IsOfFiles fault × RefusesContent files log keys chunk fault)

content_sized : (files : Files) (log : LogState) (keys : Keys) (chunk : ChunkRef) (content : List ℕ) (b : Bool) → HoldsChunk files log keys chunk.id content
    → (length content == chunk.size) ≡ b → SomeContent files log keys chunk
content_sized files log keys chunk content true holds is = inl (content, record { holds = holds; size = grind (arith, nat_tests, is) })
content_sized files log keys chunk content false holds is =
    inr (Fault.Size chunk.id, tt, (refl, record { content = content; holds = holds; size = λ e. grind (arith, nat_tests, is, e) }))

content_answer : (files : Files) (log : LogState) (keys : Keys) (chunk : ChunkRef)
    → ((content : List ℕ) × HoldsChunk files log keys chunk.id content)
    ⊎ ((fault : RepoFault) × IsOfFiles fault × RefusesChunk files log keys chunk.id fault) → SomeContent files log keys chunk
content_answer files log keys chunk (inl holds) = content_sized files log keys chunk holds.0 (length holds.0 == chunk.size) holds.1 refl
content_answer files log keys chunk (inr refuses) = inr (refuses.0, refuses.1, content_refuses files log keys chunk refuses.0 refuses.2)

some_content : (files : Files) (log : LogState) (keys : Keys) (chunk : ChunkRef) → FitsFiles files log → SomeContent files log keys chunk
some_content files log keys chunk fits = content_answer files log keys chunk (some_chunk files log keys chunk.id fits)

one_held : (files : Files) (log : LogState) (keys : Keys) (chunk : ChunkRef) (a b : List ℕ) → HoldsContent files log keys chunk a
    → HoldsContent files log keys chunk b → a ≡ b
one_held files log keys chunk a b ha hb = one_chunk files log keys chunk.id a b ha.holds hb.holds

held_apart : (files : Files) (log : LogState) (keys : Keys) (chunk : ChunkRef) (content : List ℕ) (fault : RepoFault)
    → HoldsContent files log keys chunk content → IsOfFiles fault
    → ((fault ≡ Fault.Size chunk.id) × MissesSize files log keys chunk) ⊎ RefusesChunk files log keys chunk.id fault → ⊥
held_apart files log keys chunk content fault holds of_files (inl misses) =
    misses.1.size (sym (ap length (one_chunk files log keys chunk.id content misses.1.content holds.holds misses.1.holds)) ∙ holds.size)
held_apart files log keys chunk content fault holds of_files (inr refuses) =
    chunk_apart files log keys chunk.id content fault holds.holds of_files refuses

content_apart : (files : Files) (log : LogState) (keys : Keys) (chunk : ChunkRef) (content : List ℕ) (fault : RepoFault)
    → HoldsContent files log keys chunk content → IsOfFiles fault → RefusesContent files log keys chunk fault → ⊥
content_apart files log keys chunk content fault holds of_files refuses =
    held_apart files log keys chunk content fault holds of_files (content_cases files log keys chunk fault refuses)

one_refused : (files : Files) (log : LogState) (keys : Keys) (chunk : ChunkRef) (f g : RepoFault) → IsOfFiles f → IsOfFiles g
    → ((f ≡ Fault.Size chunk.id) × MissesSize files log keys chunk) ⊎ RefusesChunk files log keys chunk.id f
    → ((g ≡ Fault.Size chunk.id) × MissesSize files log keys chunk) ⊎ RefusesChunk files log keys chunk.id g → f ≡ g
one_refused files log keys chunk f g of_f of_g (inl mf) (inl mg) = mf.0 ∙ sym mg.0
one_refused files log keys chunk f g of_f of_g (inl mf) (inr rg) = absurd (chunk_apart files log keys chunk.id mf.1.content g mf.1.holds of_g rg)
one_refused files log keys chunk f g of_f of_g (inr rf) (inl mg) = absurd (chunk_apart files log keys chunk.id mg.1.content f mg.1.holds of_f rf)
one_refused files log keys chunk f g of_f of_g (inr rf) (inr rg) = one_chunk_fault files log keys chunk.id f g of_f of_g rf rg

one_content_fault : (files : Files) (log : LogState) (keys : Keys) (chunk : ChunkRef) (f g : RepoFault) → IsOfFiles f → IsOfFiles g
    → RefusesContent files log keys chunk f → RefusesContent files log keys chunk g → f ≡ g
one_content_fault files log keys chunk f g of_f of_g hf hg =
    one_refused files log keys chunk f g of_f of_g (content_cases files log keys chunk f hf) (content_cases files log keys chunk g hg)

-- ---- the chunks of an item

-- what comes of these chunks
pub record SomeContents (files : Files) (log : LogState) (keys : Keys) (chunks : List ChunkRef) : Type 0 where
  pub contents : List (List ℕ)
  pub end : Option RepoFault
  pub come : ContentsCome files log keys chunks contents end

contents_from : (files : Files) (log : LogState) (keys : Keys) (chunk : ChunkRef) (chunks : List ChunkRef) → SomeContent files log keys chunk
    → SomeContents files log keys chunks → SomeContents files log keys (chunk ∷ chunks)
contents_from files log keys chunk chunks (inl holds) later =
    record { contents = holds.0 ∷ later.contents; end = later.end; come = (holds.1, later.come) }
contents_from files log keys chunk chunks (inr refuses) later =
    record { contents = []; end = Some refuses.0; come = (refuses.1, refuses.2) }

pub some_contents : (files : Files) (log : LogState) (keys : Keys) → FitsFiles files log → (chunks : List ChunkRef) → SomeContents files log keys chunks
some_contents files log keys fits [] = record { contents = []; end = None; come = tt }
some_contents files log keys fits (chunk ∷ chunks) =
    contents_from files log keys chunk chunks (some_content files log keys chunk fits) (some_contents files log keys fits chunks)

pub one_contents : (files : Files) (log : LogState) (keys : Keys) (chunks : List ChunkRef) (a b : List (List ℕ)) (end other : Option RepoFault)
    → ContentsCome files log keys chunks a end → ContentsCome files log keys chunks b other → (a ≡ b) × (end ≡ other)
one_contents files log keys [] [] [] None None ha hb = (refl, refl)
one_contents files log keys [] [] [] (Some f) other ha hb = absurd ha
one_contents files log keys [] [] [] None (Some g) ha hb = absurd hb
one_contents files log keys [] (a ∷ xs) b end other ha hb = absurd ha
one_contents files log keys [] [] (b ∷ bs) end other ha hb = absurd hb
one_contents files log keys (c ∷ cs) [] b None other ha hb = absurd ha
one_contents files log keys (c ∷ cs) [] [] (Some f) None ha hb = absurd hb
one_contents files log keys (c ∷ cs) [] [] (Some f) (Some g) ha hb =
    (refl, ap (λ (r : RepoFault). Some r) (one_content_fault files log keys c f g ha.0 hb.0 ha.1 hb.1))
one_contents files log keys (c ∷ cs) [] (b ∷ bs) (Some f) other ha hb = absurd (content_apart files log keys c b f hb.0 ha.0 ha.1)
one_contents files log keys (c ∷ cs) (a ∷ xs) [] end None ha hb = absurd hb
one_contents files log keys (c ∷ cs) (a ∷ xs) [] end (Some g) ha hb = absurd (content_apart files log keys c a g ha.0 hb.0 hb.1)
one_contents files log keys (c ∷ cs) (a ∷ xs) (b ∷ bs) end other ha hb =
    let more = one_contents files log keys cs xs bs end other ha.1 hb.1 in
    (ap (λ (k : List ℕ). k ∷ xs) (one_held files log keys c a b ha.0 hb.0) ∙ ap (λ (ks : List (List ℕ)). b ∷ ks) more.0, more.1)

-- what comes of chunks that are all there comes in front of what comes of those behind them
pub contents_then : (files : Files) (log : LogState) (keys : Keys) (chunks others : List ChunkRef) (contents more : List (List ℕ)) (end : Option RepoFault)
    → ContentsCome files log keys chunks contents None → ContentsCome files log keys others more end
    → ContentsCome files log keys (chunks ++ others) (contents ++ more) end
contents_then files log keys [] others [] more end come later = later
contents_then files log keys [] others (a ∷ xs) more end come later = absurd come
contents_then files log keys (c ∷ cs) others [] more end come later = absurd come
contents_then files log keys (c ∷ cs) others (a ∷ xs) more end come later = (come.0, contents_then files log keys cs others xs more end come.1 later)

pub contents_of_files : (files : Files) (log : LogState) (keys : Keys) (chunks : List ChunkRef) (contents : List (List ℕ)) (fault : RepoFault)
    → ContentsCome files log keys chunks contents (Some fault) → IsOfFiles fault
contents_of_files files log keys [] [] fault come = absurd come
contents_of_files files log keys [] (a ∷ xs) fault come = absurd come
contents_of_files files log keys (c ∷ cs) [] fault come = come.0
contents_of_files files log keys (c ∷ cs) (a ∷ xs) fault come = contents_of_files files log keys cs xs fault come.1

-- ---- the content of an item

joined_by : (files : Files) (log : LogState) (keys : Keys) (chunks : List ChunkRef) (contents : List (List ℕ)) (end : Option RepoFault)
    → ContentsCome files log keys chunks contents end
    → ((content : Option (List ℕ)) × HoldsJoined files log keys (Some chunks) content)
    ⊎ ((fault : RepoFault) × RefusesJoined files log keys (Some chunks) fault)
joined_by files log keys chunks contents None come = inl (Some (joined contents), (contents, come, refl))
joined_by files log keys chunks contents (Some fault) come = inr (fault, (contents, come))

pub some_joined : (files : Files) (log : LogState) (keys : Keys) (chunks : Option (List ChunkRef)) → FitsFiles files log
    → ((content : Option (List ℕ)) × HoldsJoined files log keys chunks content) ⊎ ((fault : RepoFault) × RefusesJoined files log keys chunks fault)
some_joined files log keys None fits = inl (None, tt)
some_joined files log keys (Some chunks) fits =
    let some = some_contents files log keys fits chunks in
    joined_by files log keys chunks some.contents some.end some.come

pub one_joined : (files : Files) (log : LogState) (keys : Keys) (chunks : Option (List ChunkRef)) (a b : Option (List ℕ))
    → HoldsJoined files log keys chunks a → HoldsJoined files log keys chunks b → a ≡ b
one_joined files log keys None None None ha hb = refl
one_joined files log keys None (Some a) b ha hb = absurd ha
one_joined files log keys None None (Some b) ha hb = absurd hb
one_joined files log keys (Some chunks) None b ha hb = absurd ha
one_joined files log keys (Some chunks) (Some a) None ha hb = absurd hb
one_joined files log keys (Some chunks) (Some a) (Some b) ha hb =
    let same = one_contents files log keys chunks ha.0 hb.0 None None ha.1 hb.1 in
    ap (λ (c : List ℕ). Some c) (ha.2 ∙ ap joined same.0 ∙ sym hb.2)

pub joined_apart : (files : Files) (log : LogState) (keys : Keys) (chunks : Option (List ChunkRef)) (content : Option (List ℕ)) (fault : RepoFault)
    → HoldsJoined files log keys chunks content → RefusesJoined files log keys chunks fault → ⊥
joined_apart files log keys None content fault holds refuses = refuses
joined_apart files log keys (Some chunks) None fault holds refuses = holds
joined_apart files log keys (Some chunks) (Some content) fault holds refuses =
    let same = one_contents files log keys chunks holds.0 refuses.0 None (Some fault) holds.1 refuses.1 in
    let no : None ≡ Some fault = same.1 in
    cc

pub one_joined_fault : (files : Files) (log : LogState) (keys : Keys) (chunks : Option (List ChunkRef)) (f g : RepoFault)
    → RefusesJoined files log keys chunks f → RefusesJoined files log keys chunks g → f ≡ g
one_joined_fault files log keys None f g hf hg = absurd hf
one_joined_fault files log keys (Some chunks) f g hf hg =
    let same = one_contents files log keys chunks hf.0 hg.0 (Some f) (Some g) hf.1 hg.1 in
    let both : Some f ≡ Some g = same.1 in
    cc

pub joined_of_files : (files : Files) (log : LogState) (keys : Keys) (chunks : Option (List ChunkRef)) (fault : RepoFault)
    → RefusesJoined files log keys chunks fault → IsOfFiles fault
joined_of_files files log keys None fault refuses = absurd refuses
joined_of_files files log keys (Some chunks) fault refuses = contents_of_files files log keys chunks refuses.0 fault refuses.1
