-- Lemmas on specs/Filling.antt: the contents of an item, one after another.
use Rattle.std.proofs.Common.{◌≡◌, ◌<◌, ◌+◌, ℕ, Bool, true, false, List, [], ◌∷◌, ◌++◌, length, take, get_or, Option, None, IfSome, option_map}
use Rattle.std.proofs.Common.{refl, sym, ◌∙◌, ap, subst}
use Rattle.std.proofs.lemmas.List.{append-nil, append_assoc}
use Rattle.ferry_disk.specs.Device.{Told, told_files, heard}
use Rattle.ferry_disk.proofs.DeviceLemmas.{told_any, told_with}
use Rattle.ferry_item.specs.Stream.{joined}
use Rattle.ferry_item.specs.declared.item.ChunkRef.{ChunkRef}
use Rattle.ferry_repo.specs.Archives.{HoldsContent, RefusesContent, ContentsCome}
use Rattle.ferry_repo.specs.Opening.{RepoState}
use Rattle.ferry_repo.specs.declared.fault.RepoFault.{RepoFault}
use Rattle.ferry_view.proofs.FileLemmas.{joined_one, contents_next, contents_refused}
use Rattle.ferry_tree.specs.Filling.{appended, WritesPart, FillsAll, FillsPart, RefusesFilling}
use Rattle.ferry_tree.specs.Growth.{with_content, with_contents, filled, WritesFront}
use Rattle.ferry_tree.specs.Nodes.{Placed, Planted, HasCurrent, write_last}
use Rattle.ferry_tree.specs.declared.fault.RestoreFault.TheVariants.{Source}
use Rattle.ferry_tree.proofs.ContentLemmas.{map_same, map_twice, map_none, after_map, current_stays, write_last-more}
use Rattle.ferry_tree.proofs.NodeLemmas.{write_last-none}

-- ---- nodes

contents_nodes : (contents : List (List ℕ)) (tree : Planted) → (with_contents contents tree).nodes ≡ write_last (joined contents) tree.nodes
contents_nodes [] tree = sym (write_last-none tree.nodes)
contents_nodes (c ∷ cs) tree = contents_nodes cs (with_content c tree) ∙ sym (write_last-more c (joined cs) tree.nodes)

filled_nodes : (takes : Bool) (contents : List (List ℕ)) (tree : Planted) → (filled takes contents tree).nodes ≡ appended takes (joined contents) tree.nodes
filled_nodes true contents tree = contents_nodes contents tree
filled_nodes false contents tree = refl

contents_push : (contents : List (List ℕ)) (content : List ℕ) (tree : Planted)
    → with_contents (contents ++ (content ∷ [])) tree ≡ with_content content (with_contents contents tree)
contents_push [] content tree = refl
contents_push (c ∷ cs) content tree = contents_push cs content (with_content c tree)

filled_more : (takes : Bool) (contents : List (List ℕ)) (content : List ℕ) (tree : Planted)
    → filled takes (contents ++ (content ∷ [])) tree ≡ filled takes (content ∷ []) (filled takes contents tree)
filled_more true contents content tree = contents_push contents content tree
filled_more false contents content tree = refl

appended_more : (takes : Bool) (a b : List ℕ) (nodes : List Placed) → appended takes b (appended takes a nodes) ≡ appended takes (a ++ b) nodes
appended_more true a b nodes = sym (write_last-more a b nodes)
appended_more false a b nodes = refl

filled_current : (takes : Bool) (contents : List (List ℕ)) (tree : Planted) → HasCurrent tree.nodes → HasCurrent (filled takes contents tree).nodes
filled_current true contents tree current =
    subst (λ (ns : List Placed). HasCurrent ns) (sym (contents_nodes contents tree)) (current_stays (joined contents) tree.nodes current)
filled_current false contents tree current = current

-- ---- one content

pub taken_all : (content : List ℕ) (before after : Option Planted) → after ≡ option_map (λ t. with_content content t) before
    → after ≡ option_map (λ t. filled true (content ∷ []) t) before
taken_all content before after e = e

pub taken_part : (content : List ℕ) (before after : Option Planted) → WritesFront content before after → WritesPart true content before after
taken_part content before after writes = record { front = writes.front; rest = writes.rest; split = writes.split; nodes = writes.nodes }

pub passed_all : (content : List ℕ) (before : Option Planted) → before ≡ option_map (λ t. filled false (content ∷ []) t) before
passed_all content before = sym (map_none (λ t. filled false (content ∷ []) t) (λ t. refl) before)

-- ---- the contents so far

-- The contents of the first chunks were appended, where they belong there.
pub record FillsSoFar (told : Option Told) (repo : RepoState) (chunks : List ChunkRef) (place : ℕ) (takes : Bool) (before now : Option Planted)
    : Type 0 where
  pub contents : List (List ℕ)
  pub come : IfSome told (λ t. ContentsCome (told_files t) repo.log repo.keys (take place chunks) contents None)
  pub now_is : now ≡ option_map (λ t. filled takes contents t) before

none_filled : (takes : Bool) (tree : Planted) → filled takes [] tree ≡ tree
none_filled true tree = refl
none_filled false tree = refl

pub fills_begin : (told : Option Told) (repo : RepoState) (chunks : List ChunkRef) (takes : Bool) (before : Option Planted)
    → FillsSoFar told repo chunks 0 takes before before
fills_begin told repo chunks takes before = record {
  contents = [];
  come = told_any told (λ f. ContentsCome f repo.log repo.keys [] [] None) (λ f. tt);
  now_is = sym (map_none (λ t. filled takes [] t) (λ t. none_filled takes t) before);
}

come_next : (told later : Option Told) (repo after_repo : RepoState) (chunks : List ChunkRef) (place : ℕ) (d : ChunkRef) (contents : List (List ℕ))
    (content : List ℕ) → heard later ≡ heard told → after_repo ≡ repo → place < length chunks
    → IfSome told (λ t. ContentsCome (told_files t) repo.log repo.keys (take place chunks) contents None)
    → IfSome later (λ t. HoldsContent (told_files t) after_repo.log after_repo.keys (get_or chunks place d) content)
    → IfSome told (λ t. ContentsCome (told_files t) repo.log repo.keys (take (place + 1) chunks) (contents ++ (content ∷ [])) None)
come_next told later repo after_repo chunks place d contents content same same_repo lt come holds =
    told_with told later (λ f. ContentsCome f repo.log repo.keys (take place chunks) contents None)
    (λ f. HoldsContent f after_repo.log after_repo.keys (get_or chunks place d) content)
    (λ f. ContentsCome f repo.log repo.keys (take (place + 1) chunks) (contents ++ (content ∷ [])) None) same
    (λ f c h. contents_next f repo chunks place d contents content lt c
    (subst (λ (r : RepoState). HoldsContent f r.log r.keys (get_or chunks place d) content) same_repo h))
    come holds

pub fills_next : (told later : Option Told) (repo after_repo : RepoState) (chunks : List ChunkRef) (place : ℕ) (d : ChunkRef) (takes : Bool)
    (before now after : Option Planted) (content : List ℕ) → heard later ≡ heard told → after_repo ≡ repo → place < length chunks
    → FillsSoFar told repo chunks place takes before now
    → IfSome later (λ t. HoldsContent (told_files t) after_repo.log after_repo.keys (get_or chunks place d) content)
    → after ≡ option_map (λ t. filled takes (content ∷ []) t) now → FillsSoFar told repo chunks (place + 1) takes before after
fills_next told later repo after_repo chunks place d takes before now after content same same_repo lt fills holds e = record {
  contents = fills.contents ++ (content ∷ []);
  come = come_next told later repo after_repo chunks place d fills.contents content same same_repo lt fills.come holds;
  now_is = e ∙ ap (option_map (λ t. filled takes (content ∷ []) t)) fills.now_is
      ∙ map_twice (λ t. filled takes fills.contents t) (λ t. filled takes (content ∷ []) t) before
      ∙ map_same (λ t. filled takes (content ∷ []) (filled takes fills.contents t)) (λ t. filled takes (fills.contents ++ (content ∷ [])) t)
      (λ t. sym (filled_more takes fills.contents content t)) before;
}

pub fills_current : (told : Option Told) (repo : RepoState) (chunks : List ChunkRef) (place : ℕ) (takes : Bool) (before now : Option Planted)
    → FillsSoFar told repo chunks place takes before now → (takes ≡ true → IfSome before (λ t. HasCurrent t.nodes))
    → takes ≡ true → IfSome now (λ t. HasCurrent t.nodes)
fills_current told repo chunks place takes before now fills current is =
    after_map (λ t. filled takes fills.contents t) before now (λ t. HasCurrent t.nodes) (λ t. HasCurrent t.nodes) fills.now_is
    (λ t h. filled_current takes fills.contents t h) (current is)

pub fills_end : (told : Option Told) (repo : RepoState) (chunks : List ChunkRef) (place : ℕ) (takes : Bool) (before now : Option Planted)
    → take place chunks ≡ chunks → FillsSoFar told repo chunks place takes before now → FillsAll told repo chunks takes before now
fills_end told repo chunks place takes before now whole fills = record {
  contents = fills.contents;
  come = subst (λ (cs : List ChunkRef). IfSome told (λ t. ContentsCome (told_files t) repo.log repo.keys cs fills.contents None)) whole fills.come;
  after_is = fills.now_is;
}

-- no more is appended
pub fills_stopped : (told : Option Told) (repo : RepoState) (chunks : List ChunkRef) (place : ℕ) (takes : Bool) (before now : Option Planted)
    → FillsSoFar told repo chunks place takes before now → FillsPart told repo chunks takes before now
fills_stopped told repo chunks place takes before now fills = record {
  count = place;
  contents = fills.contents;
  come = fills.come;
  part = record {
    front = joined fills.contents;
    rest = [];
    split = append-nil (joined fills.contents);
    nodes = ap (option_map (λ t. t.nodes)) fills.now_is ∙ map_twice (λ t. filled takes fills.contents t) (λ t. t.nodes) before
        ∙ map_same (λ t. (filled takes fills.contents t).nodes) (λ t. appended takes (joined fills.contents) t.nodes)
        (λ t. filled_nodes takes fills.contents t) before;
  };
}

-- a front of the next content is appended
pub fills_cut : (told later : Option Told) (repo after_repo : RepoState) (chunks : List ChunkRef) (place : ℕ) (d : ChunkRef) (takes : Bool)
    (before now after : Option Planted) (content : List ℕ) → heard later ≡ heard told → after_repo ≡ repo → place < length chunks
    → FillsSoFar told repo chunks place takes before now
    → IfSome later (λ t. HoldsContent (told_files t) after_repo.log after_repo.keys (get_or chunks place d) content)
    → WritesPart takes content now after → FillsPart told repo chunks takes before after
fills_cut told later repo after_repo chunks place d takes before now after content same same_repo lt fills holds writes = record {
  count = place + 1;
  contents = fills.contents ++ (content ∷ []);
  come = come_next told later repo after_repo chunks place d fills.contents content same same_repo lt fills.come holds;
  part = record {
    front = joined fills.contents ++ writes.front;
    rest = writes.rest;
    split = append_assoc (joined fills.contents) writes.front writes.rest ∙ ap (λ (bs : List ℕ). joined fills.contents ++ bs) writes.split
        ∙ sym (joined_one fills.contents content);
    nodes = writes.nodes ∙ ap (option_map (λ t. appended takes writes.front t.nodes)) fills.now_is
        ∙ map_twice (λ t. filled takes fills.contents t) (λ t. appended takes writes.front t.nodes) before
        ∙ map_same (λ t. appended takes writes.front (filled takes fills.contents t).nodes)
        (λ t. appended takes (joined fills.contents ++ writes.front) t.nodes)
        (λ t. ap (λ (ns : List Placed). appended takes writes.front ns) (filled_nodes takes fills.contents t)
        ∙ appended_more takes (joined fills.contents) writes.front t.nodes) before;
  };
}

-- the next content is refused
pub fills_refused : (told later : Option Told) (repo after_repo : RepoState) (chunks : List ChunkRef) (place : ℕ) (d : ChunkRef) (takes : Bool)
    (before now : Option Planted) (fault : RepoFault) → heard later ≡ heard told → after_repo ≡ repo → place < length chunks
    → FillsSoFar told repo chunks place takes before now
    → IfSome later (λ t. RefusesContent (told_files t) after_repo.log after_repo.keys (get_or chunks place d) fault)
    → IfSome told (λ t. RefusesFilling (told_files t) repo chunks (Source fault))
fills_refused told later repo after_repo chunks place d takes before now fault same same_repo lt fills refused =
    told_with told later (λ f. ContentsCome f repo.log repo.keys (take place chunks) fills.contents None)
    (λ f. RefusesContent f after_repo.log after_repo.keys (get_or chunks place d) fault) (λ f. RefusesFilling f repo chunks (Source fault)) same
    (λ f come refuses of_files.
    let shown = contents_refused f repo chunks place d fills.contents fault lt come
    (subst (λ (r : RepoState). RefusesContent f r.log r.keys (get_or chunks place d) fault) same_repo refuses) of_files
    in
    (shown.contents, shown.come))
    fills.come refused
