use Rattle.std.proofs.Common.{◌≡◌, [], Some, ap, refl, sym, ◌∙◌, subst}
use Rattle.ferry_carry.proofs.FlightLemmas.{named_so}
use Rattle.ferry_carry.proofs.flight.Flight.begin.Goals as goal
use Rattle.ferry_carry.specs.Flight.{AreRight}
use Rattle.ferry_compare.specs.Matched.{AreMatched}
use Rattle.ferry_manifest.specs.Manifest.Text.{ManifestText}
use Rattle.ferry_repo.specs.Archives.{archive_named}
use Rattle.ferry_repo.specs.Opening.{repo_view}

pub returns-clause-flight : goal.returns-clause-flight
returns-clause-flight c told heard store met =
    let archives = c.as_slice-archives.result.now in
    let named = c.in-Some.named in
    let found : archive_named c.args.name.now archives ≡ Some named = sym c.in_ok-named.ensures.entry ∙ c.in-Some.is in
    let name : named.name ≡ c.args.name.now = named_so c.args.name.now archives named found in
    let there : archives ≡ (repo_view c.args.source.now).manifest.archives =
    c.as_slice-archives.ensures.archives ∙ ap (λ (m : ManifestText). m.archives) c.manifest.ensures.manifest in
    let right = c.requires.options in (
      record {
        stands = record {
          options = subst AreRight (sym c.in_ok-copy_options.ensures.options)
              (record { least = right.least; most = right.most; checkpoint = right.checkpoint });
          named = ap (archive_named named.name) (sym there) ∙ (ap (λ n. archive_named n archives) name ∙ found);
          uncounted = c.nothing.ensures;
        };
        added = [];
        work = refl;
        matched = subst (AreMatched told (repo_view c.args.source.now) heard (repo_view store.repo)) (sym c.new.ensures.none) tt;
      },
      refl,
    )

pub returns-clause-name : goal.returns-clause-name
returns-clause-name c =
    named_so c.args.name.now c.as_slice-archives.result.now c.in-Some.named (sym c.in_ok-named.ensures.entry ∙ c.in-Some.is)
