-- The number of each request's method, the opnum, in the interface svcctl of MS-SCMR.
use Rattle.std.specs.Prelude.{ℕ}
use Rattle.scm_model.specs.declared.calls.Request.{Request}
use Rattle.scm_model.specs.declared.calls.Request.TheVariants as request
use Rattle.scm_model.specs.declared.codes.TheConstants.{R_CHANGE_SERVICE_CONFIG2_W, R_CHANGE_SERVICE_CONFIG_W, R_CLOSE_NOTIFY_HANDLE}
use Rattle.scm_model.specs.declared.codes.TheConstants.{R_CLOSE_SERVICE_HANDLE, R_CONTROL_SERVICE, R_CREATE_SERVICE_W, R_DELETE_SERVICE}
use Rattle.scm_model.specs.declared.codes.TheConstants.{R_ENUM_DEPENDENT_SERVICES_W, R_ENUM_SERVICES_STATUS_W, R_GET_NOTIFY_RESULTS}
use Rattle.scm_model.specs.declared.codes.TheConstants.{R_GET_SERVICE_DISPLAY_NAME_W, R_GET_SERVICE_KEY_NAME_W, R_LOCK_SERVICE_DATABASE}
use Rattle.scm_model.specs.declared.codes.TheConstants.{R_NOTIFY_SERVICE_STATUS_CHANGE, R_OPEN_SC_MANAGER_W, R_OPEN_SERVICE_W}
use Rattle.scm_model.specs.declared.codes.TheConstants.{R_QUERY_SERVICE_CONFIG2_W, R_QUERY_SERVICE_CONFIG_W, R_QUERY_SERVICE_LOCK_STATUS_W}
use Rattle.scm_model.specs.declared.codes.TheConstants.{R_QUERY_SERVICE_OBJECT_SECURITY, R_QUERY_SERVICE_STATUS, R_QUERY_SERVICE_STATUS_EX}
use Rattle.scm_model.specs.declared.codes.TheConstants.{R_SET_SERVICE_OBJECT_SECURITY, R_SET_SERVICE_STATUS, R_START_SERVICE_W}
use Rattle.scm_model.specs.declared.codes.TheConstants.{R_UNLOCK_SERVICE_DATABASE}

abbrev pub opnum : Request → ℕ
opnum (request.Close handle) = R_CLOSE_SERVICE_HANDLE
opnum (request.Control handle control) = R_CONTROL_SERVICE
opnum (request.Delete handle) = R_DELETE_SERVICE
opnum (request.Lock handle) = R_LOCK_SERVICE_DATABASE
opnum (request.QuerySecurity handle parts size) = R_QUERY_SERVICE_OBJECT_SECURITY
opnum (request.SetSecurity handle parts bytes) = R_SET_SERVICE_OBJECT_SECURITY
opnum (request.QueryStatus handle) = R_QUERY_SERVICE_STATUS
opnum (request.SetStatus handle asked) = R_SET_SERVICE_STATUS
opnum (request.Unlock handle) = R_UNLOCK_SERVICE_DATABASE
opnum (request.Change asked) = R_CHANGE_SERVICE_CONFIG_W
opnum (request.Create asked) = R_CREATE_SERVICE_W
opnum (request.EnumDependents handle states size) = R_ENUM_DEPENDENT_SERVICES_W
opnum (request.EnumServices handle kinds states size resume) = R_ENUM_SERVICES_STATUS_W
opnum (request.OpenManager database access) = R_OPEN_SC_MANAGER_W
opnum (request.OpenService handle name access) = R_OPEN_SERVICE_W
opnum (request.QueryConfig handle size) = R_QUERY_SERVICE_CONFIG_W
opnum (request.QueryLock handle size) = R_QUERY_SERVICE_LOCK_STATUS_W
opnum (request.Start handle words) = R_START_SERVICE_W
opnum (request.DisplayName handle name size) = R_GET_SERVICE_DISPLAY_NAME_W
opnum (request.KeyName handle name size) = R_GET_SERVICE_KEY_NAME_W
opnum (request.Change2 handle asked) = R_CHANGE_SERVICE_CONFIG2_W
opnum (request.QueryConfig2 handle level size) = R_QUERY_SERVICE_CONFIG2_W
opnum (request.QueryStatusEx handle level size) = R_QUERY_SERVICE_STATUS_EX
opnum (request.Notify handle mask) = R_NOTIFY_SERVICE_STATUS_CHANGE
opnum (request.GetNotify handle) = R_GET_NOTIFY_RESULTS
opnum (request.CloseNotify handle) = R_CLOSE_NOTIFY_HANDLE
