-- The one text of a key file.
use Rattle.std.specs.Prelude.{ℕ, List, [], ◌∷◌, ◌++◌}
use Rattle.std.specs.List.{flat_map}
use Rattle.hex.specs.Hex.{encode_lower}
use Rattle.base64.specs.Engines.{standard}
use Rattle.base64.specs.GeneralPurpose.{encode_of}
use Rattle.ferry_config.specs.Text.{ended, wrapped_lines}
use Rattle.ferry_keyfile.specs.KeyFile.{mark}
use Rattle.ferry_keyfile.specs.declared.file.KeyFile.{KeyFile}

-- the text: the first line with digits in lower case, and the base64 text in lines of at most 70 characters, each with LF
unfoldable pub key_file_text : KeyFile → List ℕ
key_file_text file = ended (mark ++ encode_lower file.id) ++ flat_map ended (wrapped_lines [] [] (encode_of standard file.key))
