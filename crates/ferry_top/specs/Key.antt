-- What the command that opens the repository key writes.
use Rattle.std.specs.Prelude.{◌≡◌, ℕ, List}
use Rattle.ferry_config.specs.declared.config.Config.{Config}
use Rattle.ferry_keyblob.specs.Opening.{Opened}
use Rattle.ferry_repo.specs.Opening.{UnlocksTo}
use Rattle.ferry_repo.specs.declared.secret.Secret.{Secret}
use Rattle.ferry_top.specs.Keys.{key_line}

-- The text is the line of the key in a file `config` that the secret opens: its repository id in hex digits, a space, the
-- iterations of its envelope, and a line feed.
pub record IsIdLine (secret : Secret) (bytes text : List ℕ) : Type 0 where
  pub config : Config
  pub iterations : ℕ
  pub key : Opened
  pub unlocks : UnlocksTo bytes secret config iterations key
  pub line : text ≡ key_line key.repository_id iterations
