-- Names and words by which differences are known (System V ABI; PE/COFF; Itanium C++ ABI; GNU ld's script; our profile).
use Rattle.std.specs.Prelude.{ℕ, Bool, ◌||◌, nat_eq, bytes_eq, if◌then◌else◌, List, [], ◌∷◌, codes}
use Rattle.oc_neutral.specs.KindRules.{begins}

-- the text is in the bytes
abbrev pub holds : List ℕ → List ℕ → Bool
holds text [] = begins [] text
holds text (b ∷ bytes) = begins (b ∷ bytes) text || holds text bytes

-- ... symbols

-- the name has a version for a linker of ELF: what comes before the first `@@` is the name
abbrev pub has_version : List ℕ → Bool
has_version name = holds (codes "@@") name

-- the script of GNU ld gives the name a value, whatever objects define (binutils 2.40: `ld --verbose`)
abbrev pub is_set_by_linker : List ℕ → Bool
is_set_by_linker name = bytes_eq name (codes "_end") || bytes_eq name (codes "_edata") || bytes_eq name (codes "__bss_start")

-- the name without the underscores before it
abbrev pub bare : List ℕ → List ℕ
bare [] = []
bare (b ∷ name) = if nat_eq b 95 then bare name else b ∷ name

-- a name without underscores is one of what finds a handler or throws: of Itanium's C++, of MSVC's, of C with cleanups
abbrev pub is_bare_thrower : List ℕ → Bool
is_bare_thrower name =
    begins name (codes "gxx_personality_") || begins name (codes "gcc_personality_") || begins name (codes "cxa_throw")
    || begins name (codes "cxa_rethrow") || begins name (codes "Unwind_Resume") || begins name (codes "CxxFrameHandler") || begins name (codes "CxxThrowException")

-- the object is one of gcc that is compiled at link time alone
abbrev pub is_slim : List ℕ → Bool
is_slim name = bytes_eq name (codes "__gnu_lto_slim")

-- the mark that all handlers are known (PE/COFF, "The .sxdata Section")
abbrev pub is_feature_mark : List ℕ → Bool
is_feature_mark name = bytes_eq name (codes "@feat.00")

-- ... sections

-- functions for start-up or shut-down, in ELF: of old compilers, or of an assembler that does not know the section's type
abbrev pub is_elf_start_up : List ℕ → Bool
is_elf_start_up name =
    begins name (codes ".ctors") || begins name (codes ".dtors") || begins name (codes ".init_array") || begins name (codes ".fini_array")
    || begins name (codes ".preinit_array")

-- the same in COFF: of mingw's compilers, and what start-up code of MSVC calls before and after C++
abbrev pub is_coff_start_up : List ℕ → Bool
is_coff_start_up name = begins name (codes ".ctors") || begins name (codes ".dtors") || begins name (codes ".CRT$XI") || begins name (codes ".CRT$XP")

-- the same in Mach-O
abbrev pub is_mach_start_up : List ℕ → Bool
is_mach_start_up name = bytes_eq name (codes "__TEXT,__constructor") || bytes_eq name (codes "__TEXT,__destructor")

-- directives for the linker (PE/COFF, "The .drectve Section")
abbrev pub is_directives : List ℕ → Bool
is_directives name = bytes_eq name (codes ".drectve")

-- a directive that changes what is linked: it exports, includes or renames a name, or places sections
abbrev pub has_orders : List ℕ → Bool
has_orders text =
    holds (codes "export:") text || holds (codes "EXPORT:") text || holds (codes "include:") text || holds (codes "INCLUDE:") text
    || holds (codes "alternatename:") text || holds (codes "ALTERNATENAME:") text || holds (codes "merge:") text || holds (codes "MERGE:") text

-- a directive that gives a common its alignment (GNU ld and LLD: `-aligncomm:NAME,POWER`)
abbrev pub has_alignments : List ℕ → Bool
has_alignments text = holds (codes "aligncomm:") text
