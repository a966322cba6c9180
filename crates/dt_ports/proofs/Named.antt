-- Files in memory, by name.
use Rattle.std.proofs.Common.{◌≡◌, ℕ, List, [], ◌∷◌, true, false, cond, Option, Some, option_map, map, find, refl, string_bytes, bytes_eq, sym, ap, ◌∙◌}
use Rattle.dt_ports.specs.declared.mem_files.MemFile.{MemFile}
use Rattle.dt_ports.specs.Files.{bytes_of}
use Rattle.dt_ports.specs.MemFiles.{named_bytes}

-- what is held of a name is the bytes of the first file of that name
bytes_of-map : (files : List MemFile) (name : List ℕ) →
    bytes_of (map named_bytes files) name ≡ option_map (λ file. file.bytes) (find (λ file. bytes_eq (string_bytes file.name) name) files)
bytes_of-map [] name = refl
bytes_of-map (file ∷ files) name =
    elim (bytes_eq (string_bytes file.name) name) as (λ is_named.
    option_map (λ pair. pair.1) (cond is_named (Some (named_bytes file)) (find (λ pair. bytes_eq pair.0 name) (map named_bytes files)))
    ≡ option_map (λ held. held.bytes) (cond is_named (Some file) (find (λ held. bytes_eq (string_bytes held.name) name) files)))
    [ true ↦ refl | false ↦ bytes_of-map files name ]

-- what is found of a name has the bytes held of it
pub bytes_of-found : (files : List MemFile) (name : List ℕ) {found : Option MemFile} →
    found ≡ find (λ file. bytes_eq (string_bytes file.name) name) files →
    option_map (λ file. file.bytes) found ≡ bytes_of (map named_bytes files) name
bytes_of-found files name is =
    sym (bytes_of-map files name ∙ ap (option_map (λ file. file.bytes)) (sym is))
