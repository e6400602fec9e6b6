-- The types of media, and their codes of three digits.
use Rattle.std.specs.Prelude.{ℕ, List, [], ◌∷◌, Option, codes, ◌==◌}
use Rattle.std.specs.Cmp.Lexicographic.{pointwise}
use Rattle.std.specs.List.{find}
use Rattle.circ_policy.specs.declared.media_type.MediaType.{MediaType}
use Rattle.circ_policy.specs.declared.media_type.MediaType.TheVariants.{Other, Book, Magazine, BoundJournal, AudioTape, VideoTape, Cd, Diskette, BookWithDiskette, BookWithCd, BookWithTape}

-- Media type (SIP 2.00): 000 other, 001 book, 002 magazine, 003 bound journal, 004 audio tape, 005
-- video tape, 006 CD, 007 diskette, 008 book with diskette, 009 book with CD, 010 book with audio
-- tape
abbrev pub media_code : MediaType → List ℕ
media_code Other = codes "000"
media_code Book = codes "001"
media_code Magazine = codes "002"
media_code BoundJournal = codes "003"
media_code AudioTape = codes "004"
media_code VideoTape = codes "005"
media_code Cd = codes "006"
media_code Diskette = codes "007"
media_code BookWithDiskette = codes "008"
media_code BookWithCd = codes "009"
media_code BookWithTape = codes "010"

-- the number that the code spells
abbrev pub media_index : MediaType → ℕ
media_index Other = 0
media_index Book = 1
media_index Magazine = 2
media_index BoundJournal = 3
media_index AudioTape = 4
media_index VideoTape = 5
media_index Cd = 6
media_index Diskette = 7
media_index BookWithDiskette = 8
media_index BookWithCd = 9
media_index BookWithTape = 10

abbrev pub media_types : List MediaType
media_types =
    Other ∷ Book ∷ Magazine ∷ BoundJournal ∷ AudioTape ∷ VideoTape ∷ Cd ∷ Diskette
    ∷ BookWithDiskette ∷ BookWithCd ∷ BookWithTape ∷ []

-- the type that has this code
unfoldable pub media_of_code : List ℕ → Option MediaType
media_of_code code = find (λ t. pointwise ◌==◌ (media_code t) code) media_types
