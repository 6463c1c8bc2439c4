use Rattle.std.proofs.Common.{◌∙◌, true, refl, sym}
use Rattle.ferry_blob.specs.declared.fault.BlobFault.TheVariants.{Short, Kind, Mac, Compressed}
use Rattle.ferry_blob.proofs.BatchLemmas.{mac_read, opened_kept, opened_refused, opened_whole}
use Rattle.ferry_blob.proofs.BlobLemmas.{fault_by_name, fault_compressed, fault_kind, fault_mac, fault_short, plain_read}
use Rattle.ferry_blob.proofs.LawLemmas.{zero_named}
use Rattle.ferry_blob.proofs.opening.open_by_mac.Goals as goal

pub returns-then-blob-lt-BLOB_HEAD : goal.returns-then-blob-lt-BLOB_HEAD
returns-then-blob-lt-BLOB_HEAD c = record { opened = opened_kept _ _ _ Short refl (fault_short _ _ _ c.if-blob-lt-BLOB_HEAD.true) }

pub returns-then-not-has_type : goal.returns-then-not-has_type
returns-then-not-has_type c = record {
  opened = opened_kept _ _ _ Kind refl (fault_kind _ _ _ c.if-blob-lt-BLOB_HEAD.false (sym c.has_type.ensures.kind ∙ c.if-not-has_type.true));
}

pub returns-then-not-same : goal.returns-then-not-same
returns-then-not-same c =
    let room = c.if-blob-lt-BLOB_HEAD.false in
    let kind = sym c.has_type.ensures.kind ∙ c.if-not-has_type.false in
    record {
      opened =
          opened_kept _ _ _ Mac refl
          (fault_mac _ _ _ room kind (mac_read _ _ _ _ (c.requires room kind) c.same.ensures.equal ∙ c.if-not-same.true));
    }

pub returns-then-not-same-2 : goal.returns-then-not-same-2
returns-then-not-same-2 c =
    let room = c.if-blob-lt-BLOB_HEAD.false in
    let kind = sym c.has_type.ensures.kind ∙ c.if-not-has_type.false in
    record {
      opened =
          opened_refused _ _ _ _ Compressed refl c.decrypt.ensures.decrypted
          (fault_compressed _ _ _ room kind
          (mac_read _ _ _ _ (c.requires room kind) c.same.ensures.equal ∙ c.if-not-same.false)
          (plain_read _ _ _ _ room c.decrypt.ensures.decrypted c.same-2.ensures.equal ∙ c.if-not-same-2.true));
    }

pub returns : goal.returns
returns c =
    let room = c.if-blob-lt-BLOB_HEAD.false in
    let kind = sym c.has_type.ensures.kind ∙ c.if-not-has_type.false in
    record {
      opened =
          opened_whole _ _ _ _ room c.decrypt.ensures.decrypted
          (fault_by_name _ _ _ true room kind
          (mac_read _ _ _ _ (c.requires room kind) c.same.ensures.equal ∙ c.if-not-same.false)
          (plain_read _ _ _ _ room c.decrypt.ensures.decrypted c.same-2.ensures.equal ∙ c.if-not-same-2.false) (zero_named c.args.keys.now _));
    }
