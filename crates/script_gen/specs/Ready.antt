-- What private functions say of plans and of what is made so far.
use Rattle.std.specs.Prelude.{◌≡◌, ◌*◌, ◌≤◌, List, ◌++◌, length, flat_map}
use Rattle.std.specs.List.{AllByRecursion}
use Rattle.spec_model.specs.declared.tree.Item.{Item}
use Rattle.exchange_text.specs.declared.script.Script.{Script}
use Rattle.exchange_text.specs.declared.action.TheConstants.{MAX_PARTS, MAX_PIECE, MAX_START}
use Rattle.exchange_text.specs.ScriptText.{IsScriptAction}
use Rattle.script_gen.specs.declared.plan.Plan.{Plan}
use Rattle.script_gen.specs.declared.plan.Site.{Site}
use Rattle.script_gen.specs.Paced.{ArePaced, sends_in}
use Rattle.script_gen.specs.Plan.{sites_at, templates_at}
use Rattle.script_gen.specs.Seen.{Seen}

-- A piece may be taken at the site.
pub record IsSite (site : Site) : Type 0 where
  pub start_within : site.start ≤ MAX_START
  pub one_byte : 1 ≤ site.len
  pub length_within : site.len ≤ MAX_PIECE

-- A send may have a part for each item.
abbrev pub IsTemplate : List Item → Type 0
IsTemplate template = length template ≤ MAX_PARTS

-- Steps can be made by the plan.
pub record IsReady (plan : Plan) : Type 0 where
  pub one_conn : 1 ≤ plan.conns
  pub conns_within : plan.conns ≤ plan.shape.conns
  pub one_template : 1 ≤ length plan.templates
  pub templates : AllByRecursion IsTemplate plan.templates
  pub sites : AllByRecursion IsSite plan.sites

-- the plan with the templates and the sites of what is seen besides
abbrev pub with_seen : Plan → List Seen → Plan
with_seen plan seen = record plan { templates = plan.templates ++ flat_map templates_at seen; sites = plan.sites ++ flat_map sites_at seen }

-- What steps by the plan made: its actions may stand in a script, they are paced, and at most one of them stands behind each send.
pub record IsMade (plan : Plan) (script : Script) : Type 0 where
  pub conns : script.conns ≡ plan.conns
  pub each : AllByRecursion (IsScriptAction plan.shape plan.conns) script.actions
  pub few : length script.actions ≤ 2 * sends_in script.actions
  pub paced : ArePaced script.actions
