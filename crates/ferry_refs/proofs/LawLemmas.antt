-- Lemmas on specs/Refs.antt: an id has one number of uses, and what isn't read has one first fault.
use Rattle.std.proofs.Common.{◌≡◌, ◌⊎◌, inl, inr, ℕ, List, [], ◌∷◌, ◌++◌, length, Option, Some, None, IsSome, refl, sym, ◌∙◌, ap, subst, arith}
use Rattle.std.proofs.lemmas.List.{append-nil, append_assoc, get_or_at, length-append}
use Rattle.std.specs.List.{AllByRecursion, flat_map}
use Rattle.ferry_check.proofs.ArchiveLemmas.{named_there}
use Rattle.ferry_check.specs.Report.{ArchiveRead, IsRead, AreRead, ids_used}
use Rattle.ferry_disk.specs.Files.{Files}
use Rattle.ferry_item.specs.Item.{ItemText}
use Rattle.ferry_item.specs.declared.fault.ItemFault.TheVariants as Items
use Rattle.ferry_log.specs.State.{FitsFiles}
use Rattle.ferry_manifest.specs.Record.Text.{ArchiveText}
use Rattle.ferry_manifest.specs.declared.manifest.ArchiveRef.{ArchiveRef}
use Rattle.ferry_repo.specs.Archives.{archive_named, HoldsRecord, RefusesNamed, RefusesRecord}
use Rattle.ferry_repo.specs.Fault.{IsOfFiles}
use Rattle.ferry_repo.specs.Opening.{RepoState}
use Rattle.ferry_repo.specs.Walk.{Comes, item_comes, chunk_comes, chunk_refused, item_faulty, stream_whole, stream_cut}
use Rattle.ferry_repo.specs.declared.fault.RepoFault.{RepoFault}
use Rattle.ferry_repo.specs.declared.fault.RepoFault.TheVariants.{Item}
use Rattle.ferry_repo.proofs.ComesLemmas.{whole_comes}
use Rattle.ferry_repo.proofs.ContentLemmas.{some_record, one_record, record_apart, one_record_fault}
use Rattle.ferry_repo.proofs.WalkLawLemmas.{some_comes, one_comes}
use Rattle.ferry_refs.proofs.ArchiveLemmas.{reads-append}
use Rattle.ferry_refs.specs.Refs.{Refs, EndsStream, RefusesRead, RefusesRefs, occurrences}

module _ (files : Files) (repo : RepoState) where
  -- ---- one archive

  one_named : (name : List ℕ) (a b : ArchiveRef) → archive_named name repo.manifest.archives ≡ Some a
      → archive_named name repo.manifest.archives ≡ Some b → a ≡ b
  one_named name a b ha hb = let both : Some a ≡ Some b = sym ha ∙ hb in cc

  -- what is read of a record, and what comes of its stream, is one thing
  one_stream : (a b : ArchiveRef) (archive other : ArchiveText) (items others : List ItemText) (end ends : Option RepoFault) → a ≡ b
      → HoldsRecord files repo.log repo.keys a.id archive → HoldsRecord files repo.log repo.keys b.id other
      → Comes files repo.log repo.keys a.id [] archive.items items end → Comes files repo.log repo.keys b.id [] other.items others ends
      → (archive ≡ other) × (items ≡ others) × (end ≡ ends)
  one_stream a b archive other items others end ends same holds held comes come =
      let text = one_record files repo.log repo.keys a.id archive other holds
      (subst (λ (n : ArchiveRef). HoldsRecord files repo.log repo.keys n.id other) (sym same) held) in
      let both = one_comes files repo.log repo.keys a.id [] archive.items items others end ends comes
      (subst (λ (n : ArchiveRef). Comes files repo.log repo.keys n.id [] archive.items others ends) (sym same)
      (subst (λ (t : ArchiveText). Comes files repo.log repo.keys b.id [] t.items others ends) (sym text) come)) in
      (text, both.0, both.1)

  read_comes : (name : List ℕ) (read : ArchiveRead) (is : IsRead files repo name read)
      → Comes files repo.log repo.keys is.named.id [] read.archive.items read.items None
  read_comes name read is = (whole_comes files repo.log repo.keys is.named.id read.archive.items read.items).1 is.stream

  pub one_read : (name : List ℕ) (a b : ArchiveRead) → IsRead files repo name a → IsRead files repo name b → a ≡ b
  one_read name a b ha hb =
      let named = one_named name ha.named hb.named ha.named_is hb.named_is in
      let id : a.id ≡ b.id = ha.id ∙ (ap (λ (n : ArchiveRef). n.id) named ∙ sym hb.id) in
      let rest = one_stream ha.named hb.named a.archive b.archive a.items b.items None None named ha.record_is hb.record_is
      (read_comes name a ha) (read_comes name b hb) in
      rw (id, rest.0, rest.1) refl

  -- a record that is refused isn't read
  named_apart : (named : ArchiveRef) (archive : ArchiveText) (fault : RepoFault) (found : Option ArchiveRef) → found ≡ Some named
      → HoldsRecord files repo.log repo.keys named.id archive → IsOfFiles fault → RefusesNamed files repo.log repo.keys found fault → ⊥
  named_apart named archive fault None is holds of_files refused = refused
  named_apart named archive fault (Some other) is holds of_files refused =
      let same : other ≡ named = cc in
      record_apart files repo.log repo.keys named.id archive fault holds of_files
      (subst (λ (n : ArchiveRef). RefusesRecord files repo.log repo.keys n.id fault) same refused)

  -- what is read isn't refused
  read_apart : (name : List ℕ) (read : ArchiveRead) (fault : RepoFault) → IsRead files repo name read → IsOfFiles fault
      → RefusesRead files repo name fault → ⊥
  read_apart name read fault is of_files (inl refused) =
      named_apart is.named read.archive fault (archive_named name repo.manifest.archives) is.named_is is.record_is of_files refused
  read_apart name read fault is of_files (inr ends) =
      let named = one_named name is.named ends.named is.named_is ends.named_is in
      let rest = one_stream is.named ends.named read.archive ends.archive read.items ends.items None (Some fault) named is.record_is ends.record_is
      (read_comes name read is) ends.come in
      let no : None ≡ Some fault = rest.2 in
      cc

  named_fault : (f g : RepoFault) (found : Option ArchiveRef) → IsOfFiles f → IsOfFiles g → RefusesNamed files repo.log repo.keys found f
      → RefusesNamed files repo.log repo.keys found g → f ≡ g
  named_fault f g None of_f of_g a b = absurd a
  named_fault f g (Some named) of_f of_g a b = one_record_fault files repo.log repo.keys named.id f g of_f of_g a b

  ends_fault : (name : List ℕ) (f g : RepoFault) → EndsStream files repo name f → EndsStream files repo name g → f ≡ g
  ends_fault name f g a b =
      let named = one_named name a.named b.named a.named_is b.named_is in
      let rest = one_stream a.named b.named a.archive b.archive a.items b.items (Some f) (Some g) named a.record_is b.record_is a.come b.come in
      let both : Some f ≡ Some g = rest.2 in
      cc

  one_read_fault : (name : List ℕ) (f g : RepoFault) → IsOfFiles f → IsOfFiles g → RefusesRead files repo name f → RefusesRead files repo name g → f ≡ g
  one_read_fault name f g of_f of_g (inl a) (inl b) = named_fault f g (archive_named name repo.manifest.archives) of_f of_g a b
  one_read_fault name f g of_f of_g (inl a) (inr b) =
      absurd (named_apart b.named b.archive f (archive_named name repo.manifest.archives) b.named_is b.record_is of_f a)
  one_read_fault name f g of_f of_g (inr a) (inl b) =
      absurd (named_apart a.named a.archive g (archive_named name repo.manifest.archives) a.named_is a.record_is of_g b)
  one_read_fault name f g of_f of_g (inr a) (inr b) = ends_fault name f g a b

  -- ---- several archives

  pub one_reads : (archives : List ArchiveRef) (rs ss : List ArchiveRead) → AreRead files repo archives rs → AreRead files repo archives ss → rs ≡ ss
  one_reads [] [] [] h g = refl
  one_reads [] [] (s ∷ ss) h g = absurd g
  one_reads [] (r ∷ rs) ss h g = absurd h
  one_reads (a ∷ archives) [] ss h g = absurd h
  one_reads (a ∷ archives) (r ∷ rs) [] h g = absurd g
  one_reads (a ∷ archives) (r ∷ rs) (s ∷ ss) h g = rw (one_read a.name r s h.0 g.0, one_reads archives rs ss h.1 g.1) refl

  -- The archive of this name reads.
  abbrev Reads : ArchiveRef → Type 0
  Reads named = (read : ArchiveRead) × IsRead files repo named.name read

  all_read : (archives : List ArchiveRef) (reads : List ArchiveRead) → AreRead files repo archives reads → AllByRecursion Reads archives
  all_read [] reads h = tt
  all_read (a ∷ archives) [] h = absurd h
  all_read (a ∷ archives) (r ∷ rs) h = ((r, h.0), all_read archives rs h.1)

  read_among : (before : List ArchiveRef) (named : ArchiveRef) (behind : List ArchiveRef) → AllByRecursion Reads (before ++ (named ∷ behind)) → Reads named
  read_among [] named behind all = all.0
  read_among (b ∷ bs) named behind all = read_among bs named behind all.1

  -- of two places of a list, both are the same, or one is in front of the other
  place_or : (P : ArchiveRef → Type 0) (xs ys : List ArchiveRef) (x y : ArchiveRef) (rest more : List ArchiveRef) → xs ++ (x ∷ rest) ≡ ys ++ (y ∷ more)
      → AllByRecursion P xs → AllByRecursion P ys → (x ≡ y) ⊎ (P x ⊎ P y)
  place_or P [] [] x y rest more e all others = let same : x ≡ y = cc in inl same
  place_or P [] (z ∷ ys) x y rest more e all others = let same : z ≡ x = cc in inr (inl (subst P same others.0))
  place_or P (z ∷ xs) [] x y rest more e all others = let same : z ≡ y = cc in inr (inr (subst P same all.0))
  place_or P (z ∷ xs) (w ∷ ys) x y rest more e all others =
      let tails : xs ++ (x ∷ rest) ≡ ys ++ (y ∷ more) = cc in
      place_or P xs ys x y rest more tails all.1 others.1

  -- ---- laws

  pub one_number : (id : List ℕ) (m n : ℕ) → Refs files repo id m → Refs files repo id n → m ≡ n
  one_number id m n a b =
      let reads = one_reads repo.manifest.archives a.reads b.reads a.are_read b.are_read in
      a.count_is ∙ (ap (λ (rs : List ArchiveRead). occurrences id (flat_map ids_used rs)) reads ∙ sym b.count_is)

  pub refs_apart : (id : List ℕ) (n : ℕ) (fault : RepoFault) → Refs files repo id n → IsOfFiles fault → RefusesRefs files repo fault → ⊥
  refs_apart id n fault refs of_files bad =
      let all = all_read repo.manifest.archives refs.reads refs.are_read in
      let read = read_among bad.before bad.named bad.behind (subst (AllByRecursion Reads) bad.archives all) in
      read_apart bad.named.name read.0 fault read.1 of_files bad.refused

  pub one_refs_fault : (f g : RepoFault) → IsOfFiles f → IsOfFiles g → RefusesRefs files repo f → RefusesRefs files repo g → f ≡ g
  one_refs_fault f g of_f of_g a b =
      elim (place_or Reads a.before b.before a.named b.named a.behind b.behind (sym a.archives ∙ b.archives)
      (all_read a.before a.reads a.are_read) (all_read b.before b.reads b.are_read)) [
        | inl same ↦
            one_read_fault a.named.name f g of_f of_g a.refused
            (subst (λ (r : ArchiveRef). RefusesRead files repo r.name g) (sym same) b.refused)
        | inr (inl read) ↦ absurd (read_apart a.named.name read.0 f read.1 of_f a.refused)
        | inr (inr read) ↦ absurd (read_apart b.named.name read.0 g read.1 of_g b.refused)
      ]

  -- ---- some answer

  -- a fault that ends a stream says something of the files
  end_of_files : (id bytes : List ℕ) (ids : List (List ℕ)) (items : List ItemText) (end : Option RepoFault) (fault : RepoFault)
      → Comes files repo.log repo.keys id bytes ids items end → end ≡ Some fault → IsOfFiles fault
  end_of_files id bytes ids items end fault (item_comes _ rest _ _ later _ _ comes) is = end_of_files id rest ids later end fault comes is
  end_of_files id bytes ids items end fault (chunk_comes _ _ content more _ _ _ _ comes) is =
      end_of_files id (bytes ++ content) more items end fault comes is
  end_of_files id bytes ids items end fault (chunk_refused _ _ _ found _ of_files _) is =
      let same : found ≡ fault = cc in
      subst IsOfFiles same of_files
  end_of_files id bytes ids items end fault (item_faulty _ _ found _) is = let same : Item id found ≡ fault = cc in subst IsOfFiles same tt
  end_of_files id bytes ids items end fault stream_whole is = absurd (let no : None ≡ Some fault = is in cc)
  end_of_files id bytes ids items end fault (stream_cut _ _ _) is = let same : Item id Items.Rest ≡ fault = cc in subst IsOfFiles same tt

  -- an archive of the manifest has its name
  named_in : (before : List ArchiveRef) (named : ArchiveRef) (behind : List ArchiveRef) → repo.manifest.archives ≡ before ++ named ∷ behind
      → IsSome (archive_named named.name repo.manifest.archives)
  named_in before named behind split =
      subst (λ (all : List ArchiveRef). IsSome (archive_named named.name all)) (sym split)
      (subst (λ (one : ArchiveRef). IsSome (archive_named one.name (before ++ named ∷ behind))) (get_or_at before named behind named (length before) refl)
      (named_there (before ++ named ∷ behind) (length before) named (omega (arith, length-append before (named ∷ behind)))))

  -- What is said of an archive: it reads, or it is refused so.
  abbrev SomeRead : List ℕ → Type 0
  SomeRead name = ((read : ArchiveRead) × IsRead files repo name read) ⊎ ((fault : RepoFault) × IsOfFiles fault × RefusesRead files repo name fault)

  by_end : (name : List ℕ) (named : ArchiveRef) (archive : ArchiveText) (items : List ItemText) (end : Option RepoFault)
      → archive_named name repo.manifest.archives ≡ Some named → HoldsRecord files repo.log repo.keys named.id archive
      → Comes files repo.log repo.keys named.id [] archive.items items end → SomeRead name
  by_end name named archive items None is holds comes =
      inl (
        record { id = named.id; archive = archive; items = items },
        record {
          named = named;
          named_is = is;
          id = refl;
          record_is = holds;
          stream = (whole_comes files repo.log repo.keys named.id archive.items items).0 comes;
        },
      )
  by_end name named archive items (Some fault) is holds comes =
      inr (
        fault,
        end_of_files named.id [] archive.items items (Some fault) fault comes refl,
        inr (record { named = named; named_is = is; archive = archive; record_is = holds; items = items; come = comes }),
      )

  by_record : (name : List ℕ) (named : ArchiveRef) → archive_named name repo.manifest.archives ≡ Some named → FitsFiles files repo.log
      → ((archive : ArchiveText) × HoldsRecord files repo.log repo.keys named.id archive)
      ⊎ ((fault : RepoFault) × IsOfFiles fault × RefusesRecord files repo.log repo.keys named.id fault) → SomeRead name
  by_record name named is fits (inl holds) =
      let comes = some_comes files repo.log repo.keys named.id [] holds.0.items fits in
      by_end name named holds.0 comes.0 comes.1.0 is holds.1 comes.1.1
  by_record name named is fits (inr refuses) =
      inr (
        refuses.0,
        refuses.1,
        inl (subst (λ (found : Option ArchiveRef). RefusesNamed files repo.log repo.keys found refuses.0) (sym is) refuses.2),
      )

  by_name : (name : List ℕ) (found : Option ArchiveRef) → archive_named name repo.manifest.archives ≡ found → IsSome found → FitsFiles files repo.log
      → SomeRead name
  by_name name None is some fits = absurd (let no : ⊥ = cc in no)
  by_name name (Some named) is some fits = by_record name named is fits (some_record files repo.log repo.keys named.id fits)

  -- What is said of all archives: they read, or one is refused first, so.
  abbrev SomeReads : Type 0
  SomeReads = ((reads : List ArchiveRead) × AreRead files repo repo.manifest.archives reads)
      ⊎ ((fault : RepoFault) × IsOfFiles fault × RefusesRefs files repo fault)

  all_or : (before behind : List ArchiveRef) (reads : List ArchiveRead) → repo.manifest.archives ≡ before ++ behind → AreRead files repo before reads
      → FitsFiles files repo.log → SomeReads
  all_or before [] reads split are fits =
      inl (reads, subst (λ (all : List ArchiveRef). AreRead files repo all reads) (sym (split ∙ append-nil before)) are)
  all_or before (named ∷ behind) reads split are fits =
      elim (by_name named.name (archive_named named.name repo.manifest.archives) refl (named_in before named behind split) fits) [
        | inl read ↦
            all_or (before ++ named ∷ []) behind (reads ++ read.0 ∷ []) (split ∙ sym (append_assoc before (named ∷ []) behind))
            (reads-append files repo before (named ∷ []) reads (read.0 ∷ []) are (read.1, tt)) fits
        | inr refused ↦
            inr (
              refused.0,
              refused.1,
              record {
                before = before;
                named = named;
                behind = behind;
                archives = split;
                reads = reads;
                are_read = are;
                refused = refused.2;
              },
            )
      ]

  pub some_refs : FitsFiles files repo.log → ((id : List ℕ) → (n : ℕ) × Refs files repo id n)
      ⊎ ((fault : RepoFault) × IsOfFiles fault × RefusesRefs files repo fault)
  some_refs fits = by (all_or [] repo.manifest.archives [] refl tt fits)
    where
      by : SomeReads → ((id : List ℕ) → (n : ℕ) × Refs files repo id n) ⊎ ((fault : RepoFault) × IsOfFiles fault × RefusesRefs files repo fault)
      by (inl reads) = inl (λ id. (occurrences id (flat_map ids_used reads.0), record { reads = reads.0; are_read = reads.1; count_is = refl }))
      by (inr refused) = inr refused
