-- The pairs of letters of MS-DTYP, 2.5.1.1.
use Rattle.std.specs.Prelude.{ℕ, Bool, ◌&&◌, List, [], ◌∷◌, Option, None, Some, option_map, bytes_eq, codes, find}
use Rattle.sec_desc.specs.declared.value.Sid.{Sid}
use Rattle.sddl.specs.declared.tables.KnownSid.{KnownSid}
use Rattle.sddl.specs.declared.tables.Letters.{Letters}

-- ## Bits

abbrev pub letters : List ℕ → ℕ → Letters
letters pair bit = record { pair = pair; bit = bit }

abbrev pub ace_flags : List Letters
ace_flags =
    letters (codes "OI") 0x01 ∷ letters (codes "CI") 0x02 ∷ letters (codes "NP") 0x04 ∷ letters (codes "IO") 0x08
    ∷ letters (codes "ID") 0x10 ∷ letters (codes "SA") 0x40 ∷ letters (codes "FA") 0x80 ∷ []

abbrev pub access_rights : List Letters
access_rights =
    letters (codes "CC") 0x0001 ∷ letters (codes "DC") 0x0002 ∷ letters (codes "LC") 0x0004 ∷ letters (codes "SW") 0x0008
    ∷ letters (codes "RP") 0x0010 ∷ letters (codes "WP") 0x0020 ∷ letters (codes "DT") 0x0040 ∷ letters (codes "LO") 0x0080
    ∷ letters (codes "CR") 0x0100 ∷ letters (codes "SD") 0x10000 ∷ letters (codes "RC") 0x20000 ∷ letters (codes "WD") 0x40000
    ∷ letters (codes "WO") 0x80000 ∷ letters (codes "GA") 0x10000000 ∷ letters (codes "GX") 0x20000000
    ∷ letters (codes "GW") 0x40000000 ∷ letters (codes "GR") 0x80000000 ∷ []

-- every right that has letters
abbrev pub all_rights : ℕ
all_rights = 0xF00F01FF

-- the bit that two letters stand for
abbrev pub bit_named : List Letters → List ℕ → Option ℕ
bit_named table pair = option_map (λ (it : Letters). it.bit) (find (λ (it : Letters). bytes_eq it.pair pair) table)

-- ## Identities

abbrev pub known : List ℕ → (authority first : ℕ) → Option ℕ → KnownSid
known pair authority first second = record { letters = pair; authority = authority; first = first; second = second }

abbrev pub known_sids : List KnownSid
known_sids =
    known (codes "AN") 5 7 None ∷ known (codes "AO") 5 32 (Some 548) ∷ known (codes "AU") 5 11 None ∷ known (codes "BA") 5 32 (Some 544)
    ∷ known (codes "BG") 5 32 (Some 546) ∷ known (codes "BO") 5 32 (Some 551) ∷ known (codes "BU") 5 32 (Some 545)
    ∷ known (codes "CG") 3 1 None ∷ known (codes "CO") 3 0 None ∷ known (codes "CY") 5 32 (Some 569) ∷ known (codes "ED") 5 9 None
    ∷ known (codes "ER") 5 32 (Some 573) ∷ known (codes "IS") 5 32 (Some 568) ∷ known (codes "IU") 5 4 None
    ∷ known (codes "LS") 5 19 None ∷ known (codes "LU") 5 32 (Some 559) ∷ known (codes "MU") 5 32 (Some 558)
    ∷ known (codes "NO") 5 32 (Some 556) ∷ known (codes "NS") 5 20 None ∷ known (codes "NU") 5 2 None ∷ known (codes "OW") 3 4 None
    ∷ known (codes "PO") 5 32 (Some 550) ∷ known (codes "PS") 5 10 None ∷ known (codes "PU") 5 32 (Some 547)
    ∷ known (codes "RC") 5 12 None ∷ known (codes "RD") 5 32 (Some 555) ∷ known (codes "RE") 5 32 (Some 552)
    ∷ known (codes "RU") 5 32 (Some 554) ∷ known (codes "SO") 5 32 (Some 549) ∷ known (codes "SU") 5 6 None
    ∷ known (codes "SY") 5 18 None ∷ known (codes "WD") 1 0 None ∷ known (codes "WR") 5 33 None ∷ []

abbrev pub parts_after : Option ℕ → List ℕ
parts_after None = []
parts_after (Some second) = second ∷ []

-- the identity that the letters stand for
abbrev pub sid_of : KnownSid → Sid
sid_of it = record { authority = 0 ∷ 0 ∷ 0 ∷ 0 ∷ 0 ∷ it.authority ∷ []; parts = it.first ∷ parts_after it.second }

abbrev pub has_parts : KnownSid → List ℕ → Bool
has_parts it parts = bytes_eq parts (it.first ∷ parts_after it.second)

-- whether the letters stand for this identity
abbrev pub is_known : Sid → KnownSid → Bool
is_known sid it = bytes_eq sid.authority (sid_of it).authority && has_parts it sid.parts

-- the letters that stand for an identity
abbrev pub known_by_sid : Sid → Option KnownSid
known_by_sid sid = find (is_known sid) known_sids

abbrev pub has_letters : List ℕ → KnownSid → Bool
has_letters pair it = bytes_eq it.letters pair

-- the identity that two letters stand for
abbrev pub known_by_letters : List ℕ → Option KnownSid
known_by_letters pair = find (has_letters pair) known_sids
