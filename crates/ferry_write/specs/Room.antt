-- Where a session's next entry begins: in the segment that is written, or in a new one.
use Rattle.std.specs.Prelude.{ℕ, suc, ◌+◌, ◌<◌, nat_lt, Bool, true, false, ◌&&◌, if◌then◌else◌, List, [], ◌∷◌, ◌++◌, length, Option, Some, None}
use Rattle.ferry_disk.specs.Act.{Step, AppendTo, SyncOf}
use Rattle.ferry_segment.specs.Entry.{CommitEntry, spelling}
use Rattle.ferry_segment.specs.Segment.{magic}
use Rattle.ferry_write.specs.declared.room.Room.{Room}
use Rattle.ferry_write.specs.declared.session.Session.{Session}

-- the number behind the last one, 0 where there is none
abbrev pub behind : Option ℕ → ℕ
behind None = 0
behind (Some n) = suc n

-- whether an entry of this size is to begin a segment where the one that is written has so many bytes: it has an entry, and its size with
-- the new one would be above the limit
abbrev pub is_full : ℕ → ℕ → ℕ → Bool
is_full size limit more = nat_lt 8 size && nat_lt limit (size + more)

-- whether an entry of this size is to begin a segment
abbrev pub must_begin : Option ℕ → Option ℕ → ℕ → ℕ → Bool
must_begin (Some last) (Some size) limit more = is_full size limit more
must_begin last size limit more = true

-- where it begins
abbrev pub room_in : Option ℕ → Option ℕ → Bool → Room
room_in (Some last) (Some size) false = record { segment = last; at = size }
room_in last size begins = record { segment = behind last; at = 8 }

abbrev pub room_of : Session → ℕ → Room
room_of session more = room_in session.last session.size (must_begin session.last session.size session.limit more)

-- a session with an entry of this size put
abbrev pub after_entry : Session → ℕ → Session
after_entry session more = record session { last = Some (room_of session more).segment; size = Some ((room_of session more).at + more) }

-- a session with all committed that was put
abbrev pub after_commit : Session → Session
after_commit session = record session { after = Some (behind session.last); last = Some (behind session.last); size = None }

-- the Sync of the segment that is written, where there is one
abbrev pub sync_steps : Option ℕ → Option ℕ → List Step
sync_steps (Some last) (Some size) = SyncOf last ∷ []
sync_steps last size = []

-- the steps by which a segment begins, where it does
abbrev pub room_steps : Option ℕ → Option ℕ → Bool → List Step
room_steps last size begins = if begins then sync_steps last size ++ (AppendTo (behind last) magic ∷ []) else []

-- The numbers of segments are used up: the next one is above 4294967295.
abbrev pub AreUsedUp : Option ℕ → Type 0
AreUsedUp last = 4294967295 < behind last

-- the steps of a PUT of these two parts, of a DELETE, and of a commit
abbrev pub put_steps : Session → List ℕ → List ℕ → List Step
put_steps session head blob =
    room_steps session.last session.size (must_begin session.last session.size session.limit (length head + length blob))
    ++ ((AppendTo (room_of session (length head + length blob)).segment head ∷ [])
    ++ (AppendTo (room_of session (length head + length blob)).segment blob ∷ []))

abbrev pub delete_steps : Session → List ℕ → List Step
delete_steps session entry =
    room_steps session.last session.size (must_begin session.last session.size session.limit (length entry))
    ++ (AppendTo (room_of session (length entry)).segment entry ∷ [])

abbrev pub commit_steps : Option ℕ → Option ℕ → List Step
commit_steps last size = sync_steps last size ++ ((AppendTo (behind last) (magic ++ spelling CommitEntry) ∷ []) ++ (SyncOf (behind last) ∷ []))
