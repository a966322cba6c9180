use Rattle.dt_ports.proofs.Named.{bytes_of-found}
use Rattle.dt_ports.proofs.mem_files.bytes_named.Goals as goal

pub returns : goal.returns
returns c = bytes_of-found c.args.files.now c.args.name.now c.in_ok-file.ensures

pub returns-in_err-file : goal.returns-in_err-file
returns-in_err-file c = rw c.from_residual.ensures (bytes_of-found c.args.files.now c.args.name.now c.in_err-file.ensures)
