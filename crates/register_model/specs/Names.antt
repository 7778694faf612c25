-- The names of the status registers (the Rust's `psr_info`). Assumes nothing.
use Rattle.std.specs.Prelude.{◌≡◌, refl, Bool, true, false, List, [], ◌∷◌, ℕ, ◌<◌, get_or}
use Rattle.std.proofs.Common.{sym, ◌∙◌}
use Prim.Native.String as S
use Rattle.laws.specs.Table.{at}
use Rattle.register_model.specs.declared.PsrClass.{PsrClass}
use Rattle.register_model.specs.declared.PsrClass.TheVariants.{PlaybackStatus, PlayerSetting, Reserved}
use Rattle.register_model.specs.Rules.{class_of}

-- The registers from 0 on, a reserved one without a name.
abbrev pub names : List S.String
names =
    "InteractiveGraphics" ∷ "PrimaryAudio" ∷ "PGPiPPGTextST" ∷ "Angle"
    ∷ "Title" ∷ "Chapter" ∷ "PlayList" ∷ "PlayItem" ∷ "PresentationTime"
    ∷ "Timer" ∷ "SelectedButton" ∷ "MenuPage" ∷ "SelectedStyle"
    ∷ "Parental" ∷ "SecondaryAudioVideo" ∷ "AudioCapability" ∷ "AudioLanguage"
    ∷ "PGTSLanguage" ∷ "MenuLanguage" ∷ "Country" ∷ "Region"
    ∷ "" ∷ "" ∷ "" ∷ "" ∷ "" ∷ "" ∷ "" ∷ ""
    ∷ "VideoCapability" ∷ "TextCapability" ∷ "PlayerProfileVersion"
    ∷ "" ∷ "" ∷ "" ∷ ""
    ∷ "BackupTitle" ∷ "BackupChapter" ∷ "BackupPlayList" ∷ "BackupPlayItem" ∷ "BackupPresentationTime"
    ∷ "" ∷ "BackupSelectedButton" ∷ "BackupMenuPage" ∷ "BackupSelectedStyle"
    ∷ "" ∷ "" ∷ ""
    ∷ "CharacteristicTextCapability" ∷ "CharacteristicTextCapability" ∷ "CharacteristicTextCapability" ∷ "CharacteristicTextCapability"
    ∷ "CharacteristicTextCapability" ∷ "CharacteristicTextCapability" ∷ "CharacteristicTextCapability" ∷ "CharacteristicTextCapability"
    ∷ "CharacteristicTextCapability" ∷ "CharacteristicTextCapability" ∷ "CharacteristicTextCapability" ∷ "CharacteristicTextCapability"
    ∷ "CharacteristicTextCapability" ∷ "CharacteristicTextCapability" ∷ []

unfoldable pub name_of : ℕ → S.String
name_of i = get_or names i ""

abbrev pub reserved : PsrClass → Bool
reserved (PlaybackStatus only) = false
reserved PlayerSetting = false
reserved Reserved = true

abbrev pub is_empty : S.String → Bool
is_empty S.[] = true
is_empty (S.◌∷◌ c s) = false

-- exactly the reserved ones have no name
pub unnamed : (i : ℕ) → i < 128 → is_empty (name_of i) ≡ reserved (class_of i)
unfolding name_of class_of
unnamed i h = sym (at (λ i. is_empty (name_of i)) true 128 refl i h) ∙ at (λ i. reserved (class_of i)) true 128 refl i h
