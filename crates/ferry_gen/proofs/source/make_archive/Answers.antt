use Rattle.std.proofs.Common.{◌≡◌, ◌+◌, ℕ, suc, false, refl, subst, arith}
use Rattle.ferry_carry.proofs.FlightLemmas.{rest_packable}
use Rattle.ferry_gen.proofs.MadeFilesLemmas.{archive_made, next_fits, next_has, told_on}
use Rattle.ferry_gen.proofs.MadeLemmas.{free_told}
use Rattle.ferry_gen.proofs.source.make_archive.Goals as goal
use Rattle.ferry_manifest.specs.Manifest.Writing.{manifest_text}
use Rattle.ferry_next.specs.Next.{written_at}
use Rattle.ferry_repo.specs.Opening.{repo_view}
use Rattle.ferry_store.proofs.UseLemmas.{fits_named}
use Rattle.ferry_store.proofs.WritingLemmas.{told_writing}
use Rattle.ferry_store.specs.Commit.{accepted_in}
use Rattle.ferry_store.specs.Content.{blob_for}
use Rattle.ferry_gen.specs.Steps.{HasMade}
use Rattle.ferry_store.specs.Store.{StoreFits}
use Rattle.ferry_disk.specs.Moments.{Between}

pub commit-requires-clause-fits : goal.commit-requires-clause-fits
commit-requires-clause-fits g c =
    let named = c.name_archive.new.store in
    let b = g.D.Shelf.told c.put_archive.new.depot in
    told_writing named b (fits_named c.put_archive.new.store named b c.name_archive.ensures.rest c.in_ok-id.ensures.fits)

pub returns-clause-made : goal.returns-clause-made
returns-clause-made g c =
    let middle = c.put_archive.new.store in
    let named = c.name_archive.new.store in
    let made = c.in_ok-commit.ensures.committed in
    let text = written_at (accepted_in named) _ in
    let all = archive_made c.args.archive c.args.store.now middle named c.commit.new.self c.in_ok-entry.entry _
    (blob_for (repo_view named.repo) named.counter (manifest_text (repo_view named.repo).keys made.0 text)) c.in_ok-id.id (g.D.Shelf.told c.args.depot.now)
    (g.D.Shelf.told c.put_archive.new.depot) (g.D.Shelf.told c.commit.new.depot)
    (g.D.Shelf.faults c.put_archive.new.depot) (g.D.Shelf.faults c.commit.new.depot) _ refl c.requires.archive c.requires.fits c.requires.made
    c.requires.settled c.in_ok-id.ensures.rest c.in_ok-id.ensures.puts c.in_ok-entry.ensures.entry c.name_archive.ensures.rest
    c.in_ok-name_archive.ensures.named made.1.2
    c.in_ok-commit.ensures.repo c.in_ok-commit.ensures.accepted in
    next_has (c.args.archive + 1) c.commit.new.self (g.D.Shelf.told c.args.depot.now) (g.D.Shelf.told c.commit.new.depot) c.requires.told
    (subst (λ (n : ℕ). Between (g.D.Shelf.told c.args.depot.now) (g.D.Shelf.told c.commit.new.depot) (λ h k. HasMade n c.commit.new.self k × StoreFits false
    c.commit.new.self k)) (let e : suc c.args.archive ≡ c.args.archive + 1 = omega arith in e) all)

pub returns-clause-fits : goal.returns-clause-fits
returns-clause-fits g c =
    let middle = c.put_archive.new.store in
    let named = c.name_archive.new.store in
    let made = c.in_ok-commit.ensures.committed in
    let text = written_at (accepted_in named) _ in
    let all = archive_made c.args.archive c.args.store.now middle named c.commit.new.self c.in_ok-entry.entry _
    (blob_for (repo_view named.repo) named.counter (manifest_text (repo_view named.repo).keys made.0 text)) c.in_ok-id.id (g.D.Shelf.told c.args.depot.now)
    (g.D.Shelf.told c.put_archive.new.depot) (g.D.Shelf.told c.commit.new.depot)
    (g.D.Shelf.faults c.put_archive.new.depot) (g.D.Shelf.faults c.commit.new.depot) _ refl c.requires.archive c.requires.fits c.requires.made
    c.requires.settled c.in_ok-id.ensures.rest c.in_ok-id.ensures.puts c.in_ok-entry.ensures.entry c.name_archive.ensures.rest
    c.in_ok-name_archive.ensures.named made.1.2
    c.in_ok-commit.ensures.repo c.in_ok-commit.ensures.accepted in
    next_fits (suc c.args.archive) c.commit.new.self (g.D.Shelf.told c.args.depot.now) (g.D.Shelf.told c.commit.new.depot) c.requires.told all

pub returns-clause-told : goal.returns-clause-told
returns-clause-told g c =
    let middle = c.put_archive.new.store in
    let named = c.name_archive.new.store in
    let made = c.in_ok-commit.ensures.committed in
    let text = written_at (accepted_in named) _ in
    let all = archive_made c.args.archive c.args.store.now middle named c.commit.new.self c.in_ok-entry.entry _
    (blob_for (repo_view named.repo) named.counter (manifest_text (repo_view named.repo).keys made.0 text)) c.in_ok-id.id (g.D.Shelf.told c.args.depot.now)
    (g.D.Shelf.told c.put_archive.new.depot) (g.D.Shelf.told c.commit.new.depot)
    (g.D.Shelf.faults c.put_archive.new.depot) (g.D.Shelf.faults c.commit.new.depot) _ refl c.requires.archive c.requires.fits c.requires.made
    c.requires.settled c.in_ok-id.ensures.rest c.in_ok-id.ensures.puts c.in_ok-entry.ensures.entry c.name_archive.ensures.rest
    c.in_ok-name_archive.ensures.named made.1.2
    c.in_ok-commit.ensures.repo c.in_ok-commit.ensures.accepted in
    told_on (λ h k. HasMade (suc c.args.archive) c.commit.new.self k × StoreFits false c.commit.new.self k) (g.D.Shelf.told c.args.depot.now)
    (g.D.Shelf.told c.commit.new.depot) c.requires.told all

pub name_archive-requires-clause-unnamed : goal.name_archive-requires-clause-unnamed
name_archive-requires-clause-unnamed g c =
    free_told c.args.archive c.args.store.now c.put_archive.new.store c.in_ok-entry.entry c.in_ok-id.id (g.D.Shelf.told c.args.depot.now) c.requires.told
    c.requires.archive c.requires.made c.in_ok-id.ensures.rest c.in_ok-entry.ensures.entry

pub name_archive-requires-clause-packable : goal.name_archive-requires-clause-packable
name_archive-requires-clause-packable g c =
    rest_packable c.args.store.now c.put_archive.new.store c.in_ok-id.ensures.rest c.requires.packable
